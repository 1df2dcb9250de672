-- An NTP source: one walk of the reader tells the way in which its text was accepted, and each theorem goes by these ways. Assumes nothing.
use Rattle.std.specs.Prelude.{Option, Some, None, Ok}
use Prim.Native.Nat.{ℕ, suc, ◌+◌, ◌-◌, ◌≤◌, ◌<◌}
use mathlib.Core.Path.{◌≡◌, refl, sym, ap, ◌∙◌}
use mathlib.Core.List.{List, [], ◌∷◌, ◌++◌, append-nil}
use mathlib.Core.Bool.{true, false, cond, not}
use native.Mathlib.Omega.{arith}
use lib.Dec.{eqb, ltb}
use lib.ListN.{length, take, drop, length-append, length-take}
use lib.Seq.{drop-drop}
use borrow.Author.Tests.{eqb-false, ltb-true, le-leb, not-false}
use Rattle.text.specs.Find.{before_pair, through_last}
use Rattle.text.specs.Word.{word, same, starts, ends_in}
use Rattle.text.specs.Place.{place}
use Rattle.text.proofs.Bools.{by_bool, clash, and_left}
use Rattle.text.proofs.Cuts.{same_eq, last_le, cut_last, cut_pair, cut_end}
use Rattle.number.specs.Decimal.{number_of, decimal}
use Rattle.number.proofs.Laws.{number_le}
use Rattle.number.proofs.Written.{number_short, decimal_length}
use Rattle.utf8.specs.Utf8.{utf8_of}
use Rattle.utf8.proofs.Text.{utf8_cut}
use Rattle.ipaddr.specs.Address.{ip_address}
use Rattle.ipaddr.proofs.Fits.{address_short}
use Rattle.clock.specs.Refusal.{refusal}
use Rattle.clock.specs.declared.Refusal.{Refusal}
use Rattle.clock.specs.declared.NtpServerAddr.{NtpServerAddr}
use Rattle.clock.specs.declared.NtpServerAddr.TheVariants.{HostPort, Traceable}
use Rattle.meaning.specs.Answer.{refuse, ◌>>=◌, empty, or_refuse}
use Rattle.meaning.specs.Domain.{Spelling, bare}
use Rattle.meaning.specs.ReferenceClock.{port_of, address_of, bracket_of, host_of, ntp_of}
use Rattle.meaning.specs.Meaning.{RefMeaning, ntp_traceable, ntp_host, ntp_means}
use Rattle.meaning.specs.Text.{has_colon, ref_meaning_text, in_class}
use Rattle.meaning.specs.Inside.{ntp_inside}
use Rattle.meaning.proofs.Told.{through, was_number, starts_cut, bytes_front}
use Rattle.meaning.proofs.NtpHost.{Host, first_byte, address_host, address_alone, address_form, text_length_lem, text_form, text_back, one_host}

-- The ways: a text that was accepted, as which record, and what that means.
pub data NtpIs : List ℕ → NtpServerAddr → RefMeaning → Type 0 where
  traceable : NtpIs (word "/traceable/") Traceable ntp_traceable
  host : (h : List ℕ) → ntp_of 4 h ≡ Ok (HostPort (place 4 (length h)) None)
      → NtpIs h (HostPort (place 4 (length h)) None) (ntp_host h None)
  bracketed : (h : List ℕ) → ip_address h ≡ true → NtpIs (91 ∷ (h ++ 93 ∷ [])) (HostPort (place 5 (length h)) None) (ntp_host h None)
  host_port : (h p : List ℕ) (n : ℕ) → Host h → Ok n ≡ number_of 65535 p
      → NtpIs (h ++ 58 ∷ p) (HostPort (place 4 (length h)) (Some n)) (ntp_host h (Some n))
  bracketed_port : (h p : List ℕ) (n : ℕ) → ip_address h ≡ true → Ok n ≡ number_of 65535 p
      → NtpIs (91 ∷ (h ++ 93 ∷ 58 ∷ p)) (HostPort (place 5 (length h)) (Some n)) (ntp_host h (Some n))

-- what was accepted as a port, and as an address
data PortIs (s : List ℕ) : Option ℕ → Type 0 where
  port_is : (n : ℕ) → Ok n ≡ number_of 65535 s → PortIs s (Some n)

was_port : (r : Refusal) (s : List ℕ) (p : Option ℕ) → port_of r s ≡ Ok p → PortIs s p
unfolding port_of
was_port r s p h =
    let t = through (or_refuse (number_of 65535 s) r) (λ n. Ok (Some n)) p h in
    let k : p ≡ Some t.value = cc t.onward in
    rw k (port_is t.value (was_number (number_of 65535 s) r t.value t.is))

was_address : (r : Refusal) (at : ℕ) (s : List ℕ) (p : Option ℕ) (a : NtpServerAddr) → address_of r at s p ≡ Ok a
    → (ip_address s ≡ true) × (a ≡ HostPort (place at (length s)) p)
unfolding address_of
was_address r at s p a h = by_bool (ip_address s) (λ e. (e, cc (simp e at h))) (λ e. clash (cc (simp e at h)))

-- the walk
all_is : (v s : List ℕ) (a : NtpServerAddr) → drop 4 v ≡ s → ntp_of 4 s ≡ Ok a → a ≡ HostPort (place 4 (length s)) None
    → NtpIs s a (ntp_means v a)
all_is v s a q h k = rw (k, bytes_front v 4 s [] (q ∙ sym (append-nil s))) (host s (h ∙ ap Ok k))

bracket_is : (v t : List ℕ) (a : NtpServerAddr) → drop 5 v ≡ t → bracket_of 4 (91 ∷ t) ≡ Ok a → NtpIs (91 ∷ t) a (ntp_means v a)
unfolding bracket_of
bracket_is v t a q h =
    let i = before_pair 93 58 t in
    let broken = refusal 4 4 (length (91 ∷ t)) in
    by_bool (ltb i (length t))
    (λ l.
    let r = through (port_of broken (drop (i + 2) t)) (address_of broken 5 (take i t)) a (simp l at h) in
    let w = was_address broken 5 (take i t) r.value a r.onward in
    let n : suc (suc i) ≡ i + 2 = omega arith in
    let c = cut_pair 93 58 t (ltb-true i (length t) l) in
    cut (take i t) (drop (i + 2) t) (rw n at c) w.0 r.value (was_port broken (drop (i + 2) t) r.value r.is) w.1)
    (λ l. by_bool (ends_in 93 t)
    (λ e.
    let g = take (length t - 1) t in
    let w = was_address broken 5 g None a (simp (l, e) at h) in
    let c : g ++ 93 ∷ [] ≡ t = cut_end 93 t e in
    rw (w.1, bytes_front v 5 g (93 ∷ []) (q ∙ sym c)) (rw c at (bracketed g w.0)))
    (λ e. clash (cc (simp (l, e) at h))))
  where
    cut : (g p : List ℕ) → g ++ 93 ∷ 58 ∷ p ≡ t → ip_address g ≡ true → (port : Option ℕ) → PortIs p port
        → a ≡ HostPort (place 5 (length g)) port → NtpIs (91 ∷ t) a (ntp_means v a)
    cut g p c ip port (port_is n e) k =
        rw (k, bytes_front v 5 g (93 ∷ 58 ∷ p) (q ∙ sym c)) (rw c at (bracketed_port g p n ip e))

host_is : (v s : List ℕ) (a : NtpServerAddr) → drop 4 v ≡ s → starts (word "[") s ≡ false → ntp_of 4 s ≡ Ok a → host_of 4 s ≡ Ok a
    → NtpIs s a (ntp_means v a)
unfolding host_of
host_is v s a q b k h =
    let d = through_last 58 s in
    by_bool (eqb d 0) (λ e. all_is v s a q k (cc (simp e at h)))
    (λ e. by_bool (eqb d 1) (λ f. clash (cc (simp (e, f) at h)))
    (λ f.
    let bad = refusal 6 (4 + d) (length s - d) in
    let r = through (port_of bad (drop d s)) (λ port. Ok (HostPort (place 4 (d - 1)) port)) a (simp (e, f) at h) in
    let z = eqb-false d 0 e in
    let o = eqb-false d 1 f in
    let n : suc (d - 1) ≡ d = omega arith in
    let g = take (d - 1) s in
    let l : length g ≡ d - 1 = omega (arith, length-take (d - 1) s, last_le 58 s) in
    let c = cut_last 58 s (d - 1) (sym n) in
    cut g (drop d s) (rw n at c) (omega arith) r.value (was_port bad (drop d s) r.value r.is) (cc r.onward)))
  where
    cut : (g p : List ℕ) → g ++ 58 ∷ p ≡ s → 0 < length g → (port : Option ℕ) → PortIs p port → a ≡ HostPort (place 4 (length g)) port
        → NtpIs s a (ntp_means v a)
    cut g p c l port (port_is n e) k =
        let t : Host g = record { some_bytes = l; no_bracket = sym (first_byte g (58 ∷ p) l) ∙ rw c b } in
        rw (k, bytes_front v 4 g (58 ∷ p) (q ∙ sym c)) (rw c at (host_port g p n t e))

pub ntp_is : (v s : List ℕ) (a : NtpServerAddr) → drop 4 v ≡ s → ntp_of 4 s ≡ Ok a → NtpIs s a (ntp_means v a)
unfolding ntp_of
ntp_is v s a q h =
    by_bool (empty s) (λ e. clash (cc (simp e at h)))
    (λ e. by_bool (same s (word "/traceable/"))
    (λ f. let k : a ≡ Traceable = cc (simp (e, f) at h) in rw (k, same_eq s (word "/traceable/") f) traceable)
    (λ f. by_bool (ip_address s) (λ ip. all_is v s a q h (cc (simp (e, f, ip) at h)))
    (λ ip. by_bool (starts (word "[") s)
    (λ b.
    let c = starts_cut (word "[") s b in
    rw c at (bracket_is v (drop 1 s) a (sym (drop-drop 1 4 v) ∙ ap (drop 1) q) (rw (← c) at (simp (e, f, ip, b) at h))))
    (λ b. host_is v s a q b h (simp (e, f, ip, b) at h)))))

-- the text behind "ntp="
unfoldable pub ntp_text : RefMeaning → List ℕ
ntp_text m = drop 4 (ref_meaning_text bare m)

pub ntp_text_lem : (spelling : Spelling) (v : List ℕ) (a : NtpServerAddr)
    → ref_meaning_text spelling (ntp_means v a) ≡ word "ntp=" ++ ntp_text (ntp_means v a)
unfolding ntp_text ref_meaning_text
ntp_text_lem spelling v (HostPort p port) = refl
ntp_text_lem spelling v Traceable = refl

-- the record's place lies inside the value
pub ntp_inside_lem : {s : List ℕ} {a : NtpServerAddr} {m : RefMeaning} → NtpIs s a m → (v : List ℕ) → 4 + length s ≤ length v
    → ntp_inside v a ≡ true
ntp_inside_lem traceable v l = refl
ntp_inside_lem (host h r) v l = le-leb (4 + length h) (length v) l
ntp_inside_lem (bracketed h ip) v l = le-leb (5 + length h) (length v) (omega (arith, length-append h (93 ∷ [])))
ntp_inside_lem (host_port h p n g e) v l = le-leb (4 + length h) (length v) (omega (arith, length-append h (58 ∷ p)))
ntp_inside_lem (bracketed_port h p n ip e) v l = le-leb (5 + length h) (length v) (omega (arith, length-append h (93 ∷ 58 ∷ p)))

-- the text is at most two bytes longer
pub ntp_short : {s : List ℕ} {a : NtpServerAddr} {m : RefMeaning} → NtpIs s a m → length (ntp_text m) ≤ length s + 2
unfolding ntp_text ref_meaning_text
ntp_short traceable = omega arith
ntp_short (host h r) = omega arith
ntp_short (bracketed h ip) = omega (arith, length-append h (93 ∷ []))
ntp_short (host_port h p n g e) = omega (arith, length-append h (58 ∷ p), text_length_lem h n, number_short 65535 p n (omega arith) e)
ntp_short (bracketed_port h p n ip e) = omega (arith, length-append h (93 ∷ 58 ∷ p), text_length_lem h n, number_short 65535 p n (omega arith) e)

-- it is well-formed
pub ntp_form : {s : List ℕ} {a : NtpServerAddr} {m : RefMeaning} → NtpIs s a m → utf8_of s ≡ (Ok tt) → utf8_of (ntp_text m) ≡ (Ok tt)
unfolding ntp_text ref_meaning_text
ntp_form traceable w = w
ntp_form (host h r) w = w
ntp_form (bracketed h ip) w = address_form h ip
ntp_form (host_port h p n g e) w = text_form h n (number_le 65535 n p e) (utf8_cut h 58 p (omega arith) w).0
ntp_form (bracketed_port h p n ip e) w = text_form h n (number_le 65535 n p e) (address_form h ip)

-- but for the one class it is never too long for a value: an address is short
pub ntp_fits : {s : List ℕ} {a : NtpServerAddr} {m : RefMeaning} → NtpIs s a m → 4 + length s ≤ 1024 → in_class m ≡ false
    → 4 + length (ntp_text m) ≤ 1024
unfolding ntp_text ref_meaning_text in_class
ntp_fits traceable l c = l
ntp_fits (host h r) l c = l
ntp_fits (bracketed h ip) l c = omega (arith, length-append h (93 ∷ []))
ntp_fits (host_port h p n g e) l c =
    let d = number_short 65535 p n (omega arith) e in
    by_bool (has_colon h)
    (λ k.
    let ip : ip_address h ≡ true = not-false (ip_address h) (simp k at c) in
    omega (arith, text_length_lem h n, address_short h ip, decimal_length 4 n (omega arith) (omega (arith, number_le 65535 n p e))))
    (λ k. simp k (omega (arith, length-append h (58 ∷ p), length-append h (58 ∷ decimal n))))
ntp_fits (bracketed_port h p n ip e) l c =
    omega (arith, length-append h (93 ∷ 58 ∷ p), text_length_lem h n, number_short 65535 p n (omega arith) e)

-- and it reads back, but for the one class
pub ntp_back : {s : List ℕ} {a : NtpServerAddr} {m : RefMeaning} → NtpIs s a m → (w : List ℕ) → drop 4 w ≡ ntp_text m
    → (ntp_of 4 (ntp_text m) >>= λ b. Ok (ntp_means w b)) ≡ cond (in_class m) (refuse 4 4 (length (ntp_text m))) (Ok m)
unfolding ntp_text ref_meaning_text in_class ntp_of same
ntp_back traceable w q = refl
ntp_back (host h r) w q = simp (r, bytes_front w 4 h [] (q ∙ sym (append-nil h)))
ntp_back (bracketed h ip) w q = simp (address_alone h ip, bytes_front w 4 h [] (q ∙ sym (append-nil h)))
ntp_back (host_port h p n g e) w q = text_back h n (number_le 65535 n p e) g w q
ntp_back (bracketed_port h p n ip e) w q = text_back h n (number_le 65535 n p e) (address_host h ip) w q

-- in the class, a text is that of one meaning
data Classed : RefMeaning → Type 0 where
  classed : (h : List ℕ) (n : ℕ) → n ≤ 65535 → has_colon h ≡ true → Classed (ntp_host h (Some n))

in_class_lem : {s : List ℕ} {a : NtpServerAddr} {m : RefMeaning} → NtpIs s a m → in_class m ≡ true → Classed m
unfolding in_class
in_class_lem traceable c = clash (cc)
in_class_lem (host h r) c = clash (cc)
in_class_lem (bracketed h ip) c = clash (cc)
in_class_lem (host_port h p n g e) c = classed h n (number_le 65535 n p e) (and_left (has_colon h) (not (ip_address h)) c)
in_class_lem (bracketed_port h p n ip e) c = classed h n (number_le 65535 n p e) (and_left (has_colon h) (not (ip_address h)) c)

pub ntp_class : {s s' : List ℕ} {a a' : NtpServerAddr} {m m' : RefMeaning} → NtpIs s a m → NtpIs s' a' m' → in_class m ≡ true → in_class m' ≡ true
    → ntp_text m ≡ ntp_text m' → m ≡ m'
unfolding ntp_text ref_meaning_text
ntp_class i j c d = go (in_class_lem i c) (in_class_lem j d)
  where
    go : {m m' : RefMeaning} → Classed m → Classed m' → ntp_text m ≡ ntp_text m' → m ≡ m'
    go (classed h n l c) (classed g k o d) e = one_host h g n k l o c d e
