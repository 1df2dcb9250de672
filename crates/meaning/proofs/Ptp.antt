-- PTP: a version is written as it was read, and a GMID with 23 bytes and no colon among them, so that a written text is cut where the value
-- was, and each part stands where it was read. Assumes nothing.
use Rattle.std.specs.Prelude.{Result, Option, Some, None, Ok, Err}
use Prim.Native.Nat.{ℕ, ◌+◌, ◌≤◌, ◌<◌, ◌^◌}
use mathlib.Core.Path.{◌≡◌, refl, sym, ap, ◌∙◌}
use mathlib.Core.List.{List, [], ◌∷◌, ◌++◌, append-nil}
use mathlib.Core.Bool.{true, ◌&&◌}
use native.Mathlib.Omega.{arith}
use native.Mathlib.Numerals.{add-one}
use lib.Dec.{ltb}
use lib.ListN.{length, take, drop, length-append, length-drop}
use lib.Seq.{take_all, take_at}
use borrow.Author.Tests.{lt-ltb, le-ltb, ltb-true, ltb-false, ne_eqb, le-leb}
use Rattle.text.specs.Find.{before}
use Rattle.text.specs.Word.{word, same}
use Rattle.text.specs.Place.{place, bytes_at}
use Rattle.text.proofs.Bools.{by_bool, clash, both}
use Rattle.text.proofs.Cuts.{same_eq, before_length, before_take, before_append, before_join, cut_first, drop_join}
use Rattle.text.proofs.Laws.{same_lengths}
use Rattle.eui64.specs.Eui64.{eui64_of, eui64_text}
use Rattle.eui64.proofs.Written.{eui_back, eui_length, eui_free, eui_ascii, eui_bound, eui_read_length}
use Rattle.utf8.proofs.Text.{utf8_ascii, utf8_append, utf8_cut, utf8_all_ascii}
use Rattle.clock.specs.Refusal.{refusal}
use Rattle.clock.specs.Records as made
use Rattle.clock.specs.declared.Refusal.{Refusal}
use Rattle.clock.specs.declared.Eui64.{Eui64}
use Rattle.clock.specs.declared.PtpDomain.{PtpDomain}
use Rattle.clock.specs.declared.PtpVersion.{PtpVersion}
use Rattle.clock.specs.declared.PtpVersion.TheVariants as version
use Rattle.clock.specs.declared.PtpServer.{PtpServer}
use Rattle.clock.specs.declared.PtpServer.TheVariants as source
use Rattle.clock.specs.declared.Ptp.{Ptp}
use Rattle.meaning.specs.Answer.{◌>>=◌, empty}
use Rattle.meaning.specs.Meaning.{RefMeaning, ptp, version_means, server_means, domain_means}
use Rattle.meaning.specs.Domain.{Spelling}
use Rattle.meaning.specs.ReferenceClock.{version_of, gmid_or, gmid_of, domain_of, server_of, ptp_of}
use Rattle.meaning.specs.Text.{version_text, server_text}
use Rattle.meaning.specs.Inside.{version_inside, server_inside}
use Rattle.meaning.proofs.Told.{through, Told, back_through, further, bytes_front}
use Rattle.meaning.proofs.Spelling.{Lawful}
use Rattle.eui64.specs.declared.Fault.{Fault}

-- the version: one of three words, or a place of its own
data VersionIs (at : ℕ) (x : List ℕ) : PtpVersion → Type 0 where
  is_2002 : x ≡ word "IEEE1588-2002" → VersionIs at x version.Ieee1588_2002
  is_2008 : x ≡ word "IEEE1588-2008" → VersionIs at x version.Ieee1588_2008
  is_2011 : x ≡ word "IEEE802.1AS-2011" → VersionIs at x version.Ieee8021As_2011
  is_own : VersionIs at x (version.Ext (place at (length x)))

version_is : (at : ℕ) (x : List ℕ) (r : PtpVersion) → version_of at x ≡ Ok r → VersionIs at x r
unfolding version_of
version_is at x r h =
    by_bool (empty x) (λ a. clash (cc (simp a at h)))
    (λ a. by_bool (same x (word "IEEE1588-2002"))
    (λ b. let k : r ≡ version.Ieee1588_2002 = cc (simp (a, b) at h) in rw k (is_2002 (same_eq x _ b)))
    (λ b. by_bool (same x (word "IEEE1588-2008"))
    (λ c. let k : r ≡ version.Ieee1588_2008 = cc (simp (a, b, c) at h) in rw k (is_2008 (same_eq x _ c)))
    (λ c. by_bool (same x (word "IEEE802.1AS-2011"))
    (λ d. let k : r ≡ version.Ieee8021As_2011 = cc (simp (a, b, c, d) at h) in rw k (is_2011 (same_eq x _ d)))
    (λ d. let k : r ≡ version.Ext (place at (length x)) = cc (simp (a, b, c, d) at h) in rw k is_own))))

module _ (v : List ℕ) (at : ℕ) (x : List ℕ) where
  version_inside_lem : (r : PtpVersion) → at + length x ≤ length v → VersionIs at x r → version_inside v r ≡ true
  version_inside_lem r l (is_2002 e) = refl
  version_inside_lem r l (is_2008 e) = refl
  version_inside_lem r l (is_2011 e) = refl
  version_inside_lem r l is_own = le-leb (at + length x) (length v) l

  version_text_lem : (r : PtpVersion) → bytes_at (place at (length x)) v ≡ x → VersionIs at x r → version_text (version_means v r) ≡ x
  version_text_lem r q (is_2002 e) = sym e
  version_text_lem r q (is_2008 e) = sym e
  version_text_lem r q (is_2011 e) = sym e
  version_text_lem r q is_own = q

  -- over another value with the same bytes there it means the same
  version_same : (w : List ℕ) (r : PtpVersion) → bytes_at (place at (length x)) w ≡ bytes_at (place at (length x)) v → VersionIs at x r
      → version_means w r ≡ version_means v r
  version_same w r q (is_2002 e) = refl
  version_same w r q (is_2008 e) = refl
  version_same w r q (is_2011 e) = refl
  version_same w r q is_own = rw q

pub was_gmid : (x : Result ℕ Fault) (r : Refusal) (g : Eui64) → gmid_or x r ≡ Ok g → Ok g.id ≡ x
was_gmid (Ok n) r g h = let k : g ≡ made.eui64 n = cc in rw k
was_gmid (Err fault) r g h = clash (cc)

module _ (spelling : Spelling) where
  -- the server: a word, or a GMID of 23 bytes, alone or with a domain behind it
  data ServerIs (at : ℕ) (s : List ℕ) : PtpServer → Type 0 where
    is_traceable : s ≡ word "traceable" → ServerIs at s source.Traceable
    is_gmid : (g : Eui64) → Ok g.id ≡ eui64_of s → ServerIs at s (source.GmidDomain g None)
    is_domain : (g : Eui64) (d : PtpDomain) → 23 < length s → take 23 s ++ 58 ∷ drop 24 s ≡ s → Ok g.id ≡ eui64_of (take 23 s)
        → spelling.read (at + 24) (drop 24 s) ≡ Ok d → ServerIs at s (source.GmidDomain g (Some d))

  gmid_is : (at : ℕ) (s : List ℕ) (g : Eui64) (o : Option PtpDomain) → Ok g.id ≡ eui64_of (take (before 58 s) s)
      → domain_of spelling (before 58 s) at s ≡ Ok o → ServerIs at s (source.GmidDomain g o)
  unfolding domain_of
  gmid_is at s g o e h =
      let n : before 58 s ≡ 23 = sym (before_length 58 s) ∙ eui_read_length (take (before 58 s) s) g.id e in
      let h = rw n at h in
      by_bool (ltb 23 (length s))
      (λ f.
      let r = through (spelling.read (at + 24) (drop 24 s)) (λ d. Ok (Some d)) o (simp f at h) in
      let k : o ≡ Some r.value = cc r.onward in
      let l = ltb-true 23 (length s) f in
      rw k (is_domain g r.value l (rw n at (cut_first 58 s (omega arith))) (rw n at e) r.is))
      (λ f.
      let k : o ≡ None = cc (simp f at h) in
      rw k (is_gmid g (rw (n, take_all 23 s (ltb-false 23 (length s) f)) at e)))

  server_is : (at : ℕ) (s : List ℕ) (r : PtpServer) → server_of spelling at s ≡ Ok r → ServerIs at s r
  unfolding server_of gmid_of
  server_is at s r h =
      by_bool (empty s) (λ e. clash (cc (simp e at h)))
      (λ e. by_bool (same s (word "traceable"))
      (λ f. let k : r ≡ source.Traceable = cc (simp (e, f) at h) in rw k (is_traceable (same_eq s _ f)))
      (λ f.
      let i = before 58 s in
      let a = through (gmid_of at (take i s)) (λ g. domain_of spelling i at s >>= λ d. Ok (source.GmidDomain g d)) r (simp (e, f) at h) in
      let b = through (domain_of spelling i at s) (λ d. Ok (source.GmidDomain a.value d)) r a.onward in
      let k : r ≡ source.GmidDomain a.value b.value = cc b.onward in
      rw k (gmid_is at s a.value b.value (was_gmid (eui64_of (take i s)) (refusal 9 at (length (take i s))) a.value a.is) b.is)))

  -- a GMID's text with the end of the value or a colon behind it is read as that GMID
  gmid_back : (at g : ℕ) (u : List ℕ) (o : Option PtpDomain) → g < 256 ^ 8 → before 58 u ≡ 0 → domain_of spelling 23 at (eui64_text g ++ u) ≡ Ok o
      → server_of spelling at (eui64_text g ++ u) ≡ Ok (source.GmidDomain (made.eui64 g) o)
  unfolding server_of gmid_of
  gmid_back at g u o h z e =
      let l = eui_length g in
      let n : length (eui64_text g ++ u) ≡ 23 + length u = length-append (eui64_text g) u ∙ ap (λ (k : ℕ). k + length u) l in
      let i : before 58 (eui64_text g ++ u) ≡ 23 = omega (arith, before_append 58 (eui64_text g) u (eui_free g)) in
      simp (
        ne_eqb (length (eui64_text g ++ u)) 0 (λ e. omega arith),
        ← same_lengths (eui64_text g ++ u) (word "traceable") (λ e. omega arith),
        i,
        take_at (eui64_text g) u 23 l,
        ← eui_back g h,
        e,
      )

  -- what stands behind it is nothing, or the domain
  alone : (at g : ℕ) → domain_of spelling 23 at (eui64_text g ++ []) ≡ Ok None
  unfolding domain_of
  alone at g = simp (le-ltb 23 (length (eui64_text g ++ [])) (omega (arith, length-append (eui64_text g) [], eui_length g)))

  followed : (at g : ℕ) (u : List ℕ) (d : PtpDomain) → spelling.read (at + 24) u ≡ Ok d
      → domain_of spelling 23 at (eui64_text g ++ 58 ∷ u) ≡ Ok (Some d)
  unfolding domain_of
  followed at g u d h =
      let n = eui_length g in
      simp (lt-ltb 23 (length (eui64_text g ++ 58 ∷ u)) (omega (arith, length-append (eui64_text g) (58 ∷ u))), drop_join (eui64_text g) 58 u 23 n, h)

  module _ (lawful : Lawful spelling) where
    server_inside_lem : (v : List ℕ) (at : ℕ) (s : List ℕ) (r : PtpServer) → drop at v ≡ s → at ≤ length v → ServerIs at s r
        → server_inside v r ≡ true
    server_inside_lem v at s r q l (is_traceable e) = refl
    server_inside_lem v at s r q l (is_gmid g e) = refl
    server_inside_lem v at s r q l (is_domain g d m c e f) =
        lawful.inside v (at + 24) (drop 24 s) d (further v at 24 s q) (omega (arith, length-drop at v, ap length q)) f

    server_told : (v : List ℕ) (at : ℕ) (s : List ℕ) (r : PtpServer) → drop at v ≡ s → ServerIs at s r
        → Told (server_of spelling) server_means 0 at s (server_text spelling (server_means v r)) (server_means v r)
    unfolding server_of same before
    server_told v at s r q (is_traceable e) =
        record {
          short = omega (arith, ap length e);
          form = λ f. utf8_all_ascii (word "traceable") refl;
          back = λ w p. refl;
        }
    server_told v at s r q (is_gmid g e) =
        let t = eui64_text g.id in
        let n = eui_length g.id in
        record {
          short = omega (arith, length-append t [], eui_read_length s g.id e);
          form = λ f. rw (append-nil t) (utf8_all_ascii t (eui_ascii g.id));
          back = λ w p. rw (gmid_back at g.id [] None (eui_bound s g.id e) refl (alone at g.id));
        }
    server_told v at s r q (is_domain g d m c e f) =
        let t = eui64_text g.id in
        let u = spelling.text (domain_means v d) in
        let n = eui_length g.id in
        let told = lawful.told v (at + 24) (drop 24 s) d (further v at 24 s q) f in
        record {
          short = omega (arith, told.short, length-append t (58 ∷ u), length-drop 24 s);
          form =
              λ f.
              let y = (utf8_cut (take 23 s) 58 (drop 24 s) (omega arith) (rw (← c) at f)).1 in
              utf8_append t (58 ∷ u) (utf8_all_ascii t (eui_ascii g.id)) (utf8_ascii 58 u (omega arith) (told.form y));
          back =
              λ w p.
              let b = back_through told w (further w at 24 (t ++ 58 ∷ u) p ∙ drop_join t 58 u 23 n) in
              let o = followed at g.id u b.value b.is in
              rw (gmid_back at g.id (58 ∷ u) (Some b.value) (eui_bound (take 23 s) g.id e) refl o) (cc b.onward);
        }

  -- the whole: cut at the first colon, with a version x before it and a server y behind it
  record PtpIs (at : ℕ) (s : List ℕ) (p : Ptp) : Type 0 where
    pub x : List ℕ
    pub y : List ℕ
    pub cut : x ++ 58 ∷ y ≡ s
    pub free : before 58 x ≡ length x
    pub version : version_of at x ≡ Ok p.version
    pub server : ServerIs (at + (length x + 1)) y p.server

  ptp_is : (at : ℕ) (s : List ℕ) (p : Ptp) → ptp_of spelling at s ≡ Ok p → PtpIs at s p
  unfolding ptp_of
  ptp_is at s p h =
      let i = before 58 s in
      let n = before_length 58 s in
      by_bool (ltb i (length s))
      (λ e.
      let y = drop (i + 1) s in
      let a = through (version_of at (take i s)) (λ a. server_of spelling (at + (i + 1)) y >>= λ b. Ok (made.ptp a b)) p (simp e at h) in
      let b = through (server_of spelling (at + (i + 1)) y) (λ b. Ok (made.ptp a.value b)) p a.onward in
      let k : p ≡ made.ptp a.value b.value = cc b.onward in
      rw k
      (record {
        x = take i s;
        y = y;
        cut = rw add-one (cut_first 58 s (ltb-true i (length s) e));
        free = before_take 58 s ∙ sym n;
        version = a.is;
        server = rw n (server_is (at + (i + 1)) y b.value b.is);
      }))
      (λ e. clash (cc (simp e at h)))

  -- such a text is read so
  ptp_back : (at : ℕ) (x y : List ℕ) (a : PtpVersion) (b : PtpServer) → before 58 x ≡ length x → version_of at x ≡ Ok a
      → server_of spelling (at + (length x + 1)) y ≡ Ok b → ptp_of spelling at (x ++ 58 ∷ y) ≡ Ok (made.ptp a b)
  unfolding ptp_of
  ptp_back at x y a b f i j =
      simp (
        before_join 58 x y f,
        lt-ltb (length x) (length (x ++ 58 ∷ y)) (omega (arith, length-append x (58 ∷ y))),
        take_at x (58 ∷ y) (length x) refl,
        drop_join x 58 y (length x) refl,
        i,
        j,
      )

abbrev pub ptp_means : List ℕ → Ptp → RefMeaning
ptp_means w p = ptp (version_means w p.version) (server_means w p.server)

module _ (spelling : Spelling) (lawful : Lawful spelling) (v : List ℕ) (at : ℕ) (s : List ℕ) (p : Ptp) where
  module _ (q : drop at v ≡ s) (i : PtpIs spelling at s p) where
    -- the server stands to the end of the value
    server_at : drop (at + (length i.x + 1)) v ≡ i.y
    server_at = further v at (length i.x + 1) s q ∙ rw (← i.cut) (drop_join i.x 58 i.y (length i.x) refl)

  pub ptp_inside : drop at v ≡ s → ptp_of spelling at s ≡ Ok p → (version_inside v p.version && server_inside v p.server) ≡ true
  ptp_inside q h =
      let i = ptp_is spelling at s p h in
      let l = length-append i.x (58 ∷ i.y) in
      let n : at + (length i.x + 1) ≤ length v = omega (arith, length-drop at v, ap length q, ap length i.cut) in
      both (version_inside_lem v at i.x p.version (omega arith) (version_is at i.x p.version i.version))
      (server_inside_lem spelling lawful v (at + (length i.x + 1)) i.y p.server (server_at q i) n i.server)

  pub ptp_told : drop at v ≡ s → ptp_of spelling at s ≡ Ok p
      → Told (ptp_of spelling) ptp_means 0 at s
      (version_text (version_means v p.version) ++ 58 ∷ server_text spelling (server_means v p.server)) (ptp_means v p)
  ptp_told q h =
      let i = ptp_is spelling at s p h in
      let x = i.x in
      let k = version_is at x p.version i.version in
      let t = server_text spelling (server_means v p.server) in
      let told = server_told spelling lawful v (at + (length x + 1)) i.y p.server (server_at q i) i.server in
      let here = bytes_front v at x (58 ∷ i.y) (q ∙ sym i.cut) in
      rw (version_text_lem v at x p.version here k)
      (record {
        short = omega (arith, told.short, length-append x (58 ∷ t), length-append x (58 ∷ i.y), ap length i.cut);
        form =
            λ f.
            let u = utf8_cut x 58 i.y (omega arith) (rw (← i.cut) at f) in
            utf8_append x (58 ∷ t) u.0 (utf8_ascii 58 t (omega arith) (told.form u.1));
        back =
            λ w r.
            let b = back_through told w (further w at (length x + 1) (x ++ 58 ∷ t) r ∙ drop_join x 58 t (length x) refl) in
            rw (ptp_back spelling at x t p.version b.value i.free i.version b.is)
            (cc (version_same v at x w p.version (bytes_front w at x (58 ∷ t) r ∙ sym here) k, b.onward));
      })
