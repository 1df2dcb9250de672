-- The same-clock question is an equivalence on accepted values and means records that are equal but for hosts; the GMID stands at its place; one part
-- governs. Assumes nothing.
use Rattle.std.specs.Prelude.{Result, Option, Ok, Err, Some, None}
use Prim.Native.Nat.{ℕ, ◌+◌}
use mathlib.Core.Path.{◌≡◌, refl, sym, ap, ◌∙◌}
use mathlib.Core.List.{List}
use mathlib.Core.Bool.{Bool, true, false, cond}
use native.Mathlib.Omega.{arith}
use lib.Dec.{eqb, ltb}
use lib.ListN.{length, take, drop}
use Rattle.text.specs.Find.{before}
use Rattle.text.specs.Word.{word, same, starts}
use Rattle.text.specs.Place.{bytes_at}
use Rattle.text.proofs.Bools.{by_bool, clash}
use Rattle.text.proofs.Cuts.{before_append}
use Rattle.text.proofs.Parts.{part_settled}
use Rattle.eui64.specs.Eui64.{eui64_of}
use Rattle.clock.specs.Refusal.{refusal}
use Rattle.clock.specs.Records as made
use Rattle.clock.specs.declared.Eui64.{Eui64}
use Rattle.clock.specs.declared.Ptp.{Ptp}
use Rattle.clock.specs.declared.PtpServer.TheVariants.{GmidDomain}
use Rattle.clock.specs.declared.PrivateSource.TheVariants as private
use Rattle.clock.specs.declared.ReferenceClock.{ReferenceClock}
use Rattle.clock.specs.declared.ReferenceClock.TheVariants as clock
use Rattle.meaning.specs.Answer.{Answer, ◌>>=◌, empty, extension_of}
use Rattle.meaning.specs.Domain.{bare}
use Rattle.meaning.specs.ReferenceClock.{gmid_of, domain_of, version_of, server_of, ntp_of, ptp_of, clock_of, reference_clock_of, read_reference_clock}
use Rattle.meaning.specs.Meaning.{RefMeaning, ref_meaning}
use Rattle.meaning.specs.Meaning as means
use Rattle.meaning.proofs.Told.{through, was_accepted, was_made, starts_cut, further}
use Rattle.meaning.proofs.Ptp.{was_gmid}
use Rattle.meaning.proofs.Demand3.{ref_answer}
use Rattle.equal.specs.Decides.{Decides}
use Rattle.equal.specs.Alike.{OneClock, equal, servers, hosts_alike}
use Rattle.equal.specs.Equality.{Equivalence}
use Rattle.equal.proofs.Equality.{alike_decides, classes}
use Rattle.questions.specs.SameClock.{SameClock}
use Rattle.questions.specs.Private.Test.{both_alike, same_clock}
use Rattle.questions.specs.Governing.{gmid_place, clock_place, governor, governing_place, PlaceGoverns, GoverningSettled}
use Rattle.questions.specs.Owed.{Classes, EqualIsSame, host_in, without_host, SameIsEqualButHosts, GmidThere}
use Rattle.questions.specs.Private.Test.{SameClockDecides}
use Rattle.questions.proofs.Laws.{both_accepted}
use Rattle.clock.specs.declared.Refusal.{Refusal}
use Rattle.clock.specs.declared.PtpDomain.{PtpDomain}

pub same_clock_decides : SameClockDecides
unfolding same_clock
same_clock_decides v w = go (read_reference_clock v) (read_reference_clock w) refl refl
  where
    go : (x y : Result ReferenceClock Refusal) → x ≡ read_reference_clock v → y ≡ read_reference_clock w → Decides (both_alike v x w y) (SameClock v w)
    go (Ok c) (Ok d) e f = both_accepted v w c d e f _ (alike_decides hosts_alike classes.of_hosts (ref_meaning v c) (ref_meaning w d))
    go (Ok c) (Err r) e f = record { right = λ h. clash (cc); found = λ s. clash (cc (f, s.is_second)) }
    go (Err r) y e f = record { right = λ h. clash (cc); found = λ s. clash (cc (e, s.is_first)) }

like : Equivalence (OneClock hosts_alike)
like = classes.of_clocks hosts_alike classes.of_hosts

pub same_classes : Classes
same_classes =
    record {
      to_self = λ v c e. record { first = c; second = c; is_first = e; is_second = e; one = like.to_self (ref_meaning v c) };
      back = λ v w b.
          record {
            first = b.second;
            second = b.first;
            is_first = b.is_second;
            is_second = b.is_first;
            one = like.back (ref_meaning v b.first) (ref_meaning w b.second) b.one;
          };
      on = λ v w x b d.
          let e : b.second ≡ d.first = cc (b.is_second, d.is_first) in
          record {
            first = b.first;
            second = d.second;
            is_first = b.is_first;
            is_second = d.is_second;
            one = like.on (ref_meaning v b.first) (ref_meaning w d.first) (ref_meaning x d.second) (rw e at b.one) d.one;
          };
    }

pub equal_is_same : EqualIsSame
equal_is_same v w q =
    record {
      first = q.first;
      second = q.second;
      is_first = q.is_first;
      is_second = q.is_second;
      one = equal q.equal;
    }

-- one clock is told by the hosts and by all else
same_else : (m n : RefMeaning) → OneClock hosts_alike m n → without_host m ≡ without_host n
same_else m n (equal e) = ap without_host e
same_else m n (servers h g port e a b) = rw (a, b) refl

same_hosts : (m n : RefMeaning) → OneClock hosts_alike m n → (h g : List ℕ) → host_in m ≡ Some h → host_in n ≡ Some g → hosts_alike h g ≡ true
same_hosts m n (equal e) h g eh eg =
    let k : h ≡ g = cc (sym eh ∙ ap host_in e ∙ eg) in
    rw k (classes.of_hosts.to_self g)
same_hosts m n (servers i j port e a b) h g eh eg =
    let p : i ≡ h = cc (ap host_in a, eh) in
    let q : j ≡ g = cc (ap host_in b, eg) in
    rw (← p, ← q) e

-- a record has a host, or loses nothing with it
data HostView (m : RefMeaning) : Type 0 where
  no_host : host_in m ≡ None → without_host m ≡ m → HostView m
  a_host : (h : List ℕ) (port : Option ℕ) → m ≡ means.ntp_host h port → HostView m

host_view : (m : RefMeaning) → HostView m
host_view means.ntp_traceable = no_host refl refl
host_view (means.ntp_host h port) = a_host h port refl
host_view (means.ptp version server) = no_host refl refl
host_view means.gps = no_host refl refl
host_view means.gal = no_host refl refl
host_view means.glonass = no_host refl refl
host_view means.local = no_host refl refl
host_view means.private_standard = no_host refl refl
host_view means.private_traceable = no_host refl refl
host_view (means.ref_ext name value) = no_host refl refl

-- and by nothing more
one_of_both : (m n : RefMeaning) → without_host m ≡ without_host n
    → ((h g : List ℕ) → host_in m ≡ Some h → host_in n ≡ Some g → hosts_alike h g ≡ true) → OneClock hosts_alike m n
one_of_both m n e f = go (host_view m) (host_view n)
  where
    go : HostView m → HostView n → OneClock hosts_alike m n
    go (no_host a b) (no_host c d) = equal (sym b ∙ e ∙ d)
    go (no_host a b) (a_host g port c) = clash (cc (sym a ∙ ap host_in (sym b ∙ e ∙ ap without_host c)))
    go (a_host h port a) (no_host c d) = clash (cc (sym c ∙ ap host_in (sym d ∙ sym e ∙ ap without_host a)))
    go (a_host h port a) (a_host g other b) =
        let p : port ≡ other = cc (sym (ap without_host a) ∙ e ∙ ap without_host b) in
        servers h g port (f h g (ap host_in a) (ap host_in b)) a (rw p b)

pub same_is_equal_but_hosts : SameIsEqualButHosts
same_is_equal_but_hosts v w = (
  λ b.
      record {
        first = b.first;
        second = b.second;
        is_first = b.is_first;
        is_second = b.is_second;
        equal_but = same_else (ref_meaning v b.first) (ref_meaning w b.second) b.one;
        alike = same_hosts (ref_meaning v b.first) (ref_meaning w b.second) b.one;
      },
  λ b.
      record {
        first = b.first;
        second = b.second;
        is_first = b.is_first;
        is_second = b.is_second;
        one = one_of_both (ref_meaning v b.first) (ref_meaning w b.second) b.equal_but b.alike;
      },
)

-- the server's GMID is what stands before its first colon
server_gmid : (at : ℕ) (t : List ℕ) (g : Eui64) (o : Option PtpDomain) → server_of bare at t ≡ Ok (GmidDomain g o)
    → eui64_of (take (before 58 t) t) ≡ Ok g.id
unfolding server_of gmid_of
server_gmid at t g o h =
    by_bool (empty t) (λ a. clash (cc (simp a at h)))
    (λ a. by_bool (same t (word "traceable")) (λ b. clash (cc (simp (a, b) at h)))
    (λ b.
    let i = before 58 t in
    let x = through (gmid_of at (take i t)) (λ g. domain_of bare i at t >>= λ d. Ok (GmidDomain g d)) (GmidDomain g o) (simp (a, b) at h) in
    let y = was_made (domain_of bare i at t) (λ d. GmidDomain x.value d) (GmidDomain g o) x.onward in
    let k : x.value ≡ g = cc y.made in
    rw k at (sym (was_gmid (eui64_of (take i t)) (refusal 9 at (length (take i t))) x.value x.is))))

-- the server is what stands behind the version's colon
ptp_server_lem : (at : ℕ) (s : List ℕ) (p : Ptp) → ptp_of bare at s ≡ Ok p
    → server_of bare (at + (before 58 s + 1)) (drop (before 58 s + 1) s) ≡ Ok p.server
unfolding ptp_of
ptp_server_lem at s p h =
    let i = before 58 s in
    let server = server_of bare (at + (i + 1)) (drop (i + 1) s) in
    by_bool (ltb i (length s))
    (λ e.
    let x = through (version_of at (take i s)) (λ v. server >>= λ w. Ok (made.ptp v w)) p (simp e at h) in
    let y = was_made server (λ w. made.ptp x.value w) p x.onward in
    rw y.made y.is)
    (λ e. clash (cc (simp e at h)))

abbrev is_ptp : ReferenceClock → Bool
is_ptp (clock.Ntp n) = false
is_ptp (clock.Ptp p) = true
is_ptp clock.Gps = false
is_ptp clock.Gal = false
is_ptp clock.Glonass = false
is_ptp clock.Local = false
is_ptp (clock.Private p) = false
is_ptp (clock.Ext e) = false

-- a word that is no PTP source was not the value
pass : (t : Bool) (c d : ReferenceClock) (x : Answer ReferenceClock) → is_ptp c ≡ false → is_ptp d ≡ true
    → cond t (Ok c) x ≡ Ok d → x ≡ Ok d
pass true c d x e f h = let k : c ≡ d = cc in clash (cc (e, f, k))
pass false c d x e f h = h

-- a PTP source is read of what stands behind "ptp="
record PtpValue (v : List ℕ) (p : Ptp) : Type 0 where
  pub begins : starts (word "ptp=") v ≡ true
  pub source : ptp_of bare 4 (drop 4 v) ≡ Ok p

ptp_value : (v : List ℕ) (p : Ptp) → clock_of bare v ≡ Ok (clock.Ptp p) → PtpValue v p
unfolding clock_of
ptp_value v p h =
    by_bool (starts (word "ntp=") v)
    (λ e. let r = was_made (ntp_of 4 (drop 4 v)) (λ w. clock.Ntp (made.ntp w)) (clock.Ptp p) (simp e at h) in clash (cc r.made))
    (λ e. by_bool (starts (word "ptp=") v)
    (λ f.
    let r = was_made (ptp_of bare 4 (drop 4 v)) clock.Ptp (clock.Ptp p) (simp (e, f) at h) in
    let k : r.value ≡ p = cc r.made in
    record { begins = f; source = rw k at r.is })
    (λ f.
    let c = clock.Ptp p in
    let h1 = simp (e, f) at h in
    let h2 = pass (same v (word "gps")) clock.Gps c _ refl refl h1 in
    let h3 = pass (same v (word "gal")) clock.Gal c _ refl refl h2 in
    let h4 = pass (same v (word "glonass")) clock.Glonass c _ refl refl h3 in
    let h5 = pass (same v (word "local")) clock.Local c _ refl refl h4 in
    let h6 = pass (same v (word "private")) (clock.Private private.Standard) c _ refl refl h5 in
    let h7 = pass (same v (word "private:traceable")) (clock.Private private.Traceable) c _ refl refl h6 in
    let r = was_made (extension_of made.clock_source_ext 11 0 v) clock.Ext c h7 in
    clash (cc r.made)))

-- "ptp=" holds no colon
first_colon : (v : List ℕ) → starts (word "ptp=") v ≡ true → before 58 v ≡ 4 + before 58 (drop 4 v)
unfolding before
first_colon v e = ap (before 58) (sym (starts_cut (word "ptp=") v e)) ∙ before_append 58 (word "ptp=") (drop 4 v) refl

pub gmid_there : GmidThere
unfolding gmid_place bytes_at reference_clock_of
gmid_there v x g d h =
    let c = clock.Ptp (made.ptp x (GmidDomain g d)) in
    let a = was_accepted v (clock_of bare v) c (ref_answer v c h) in
    let p = ptp_value v (made.ptp x (GmidDomain g d)) a.is in
    let i = before 58 (drop 4 v) in
    let n : before 58 v + 1 ≡ 4 + (i + 1) = omega (arith, first_colon v p.begins) in
    rw (n, further v 4 (i + 1) (drop 4 v) refl)
    (server_gmid (4 + (i + 1)) (drop (i + 1) (drop 4 v)) g d (ptp_server_lem 4 (drop 4 v) (made.ptp x (GmidDomain g d)) p.source))

pub governing_settled : GoverningSettled
governing_settled session media = let v = governor session media in part_settled v (clock_place v.now)

pub place_governs : PlaceGoverns
unfolding governing_place governor
place_governs session media r e = by_bool (eqb (length media.now) 0) (λ f. simp f (simp f at e)) (λ f. simp f (simp f at e))
