-- A ts-refclk value, whole: each kind is written so that it reads back, but for the one class of NTP hosts. Assumes nothing.
use Rattle.std.specs.Prelude.{Ok, Err}
use Prim.Native.Nat.{ℕ, ◌+◌, ◌-◌, ◌≤◌}
use mathlib.Core.Path.{◌≡◌, refl, sym, ap, ◌∙◌}
use mathlib.Core.List.{List, ◌∷◌, ◌++◌}
use mathlib.Core.Bool.{true, false, cond}
use native.Mathlib.Omega.{arith}
use lib.Dec.{ltb}
use lib.ListN.{length, drop}
use borrow.Author.Tests.{ltb-true, ltb-false}
use Rattle.text.specs.Word.{word, same, starts}
use Rattle.text.proofs.Bools.{by_bool, clash}
use Rattle.text.proofs.Cuts.{same_eq}
use Rattle.utf8.specs.Utf8.{utf8_of}
use Rattle.utf8.proofs.Text.{utf8_append, utf8_cut, utf8_all_ascii}
use Rattle.clock.specs.Refusal.{refusal}
use Rattle.clock.specs.Records.{ntp, clock_source_ext}
use Rattle.clock.specs.declared.NtpServerAddr.{NtpServerAddr}
use Rattle.clock.specs.declared.Ptp.{Ptp}
use Rattle.clock.specs.declared.PrivateSource.TheVariants as private
use Rattle.clock.specs.declared.ReferenceClock.{ReferenceClock}
use Rattle.clock.specs.declared.ReferenceClock.TheVariants as clock
use Rattle.meaning.specs.Answer.{Answer, refuse, ◌>>=◌, extension_of}
use Rattle.meaning.specs.Meaning.{RefMeaning, ref_ext, ntp_means, version_means, server_means, ref_meaning}
use Rattle.meaning.specs.Domain.{Spelling}
use Rattle.meaning.specs.ReferenceClock.{ntp_of, ptp_of, clock_of, reference_clock_of}
use Rattle.meaning.specs.Text.{version_text, server_text, ref_meaning_text, in_class}
use Rattle.meaning.specs.Inside.{reference_clock_inside}
use Rattle.meaning.proofs.Told.{Accepted, was_accepted, was_made, made_twice, starts_cut, starts_length, guarded_well, guarded_long}
use Rattle.meaning.proofs.Extension.{ext_text, ext_made, ext_means, ext_inside}
use Rattle.meaning.proofs.Ntp.{NtpIs, ntp_is, ntp_text, ntp_text_lem, ntp_inside_lem, ntp_short, ntp_form, ntp_fits, ntp_back, ntp_class}
use Rattle.meaning.proofs.Spelling.{Lawful}
use Rattle.meaning.proofs.Ptp.{ptp_inside, ptp_told}

-- what reading a written text t of the meaning m gives: m again, but for the class
unfoldable pub read_back : RefMeaning → List ℕ → Answer RefMeaning
read_back m t =
    cond (in_class m)
    (Err (cond (ltb 1024 (length t)) (refusal 1 1024 (length t - 1024)) (refusal 4 4 (length t - 4))))
    (Ok m)

module _ (spelling : Spelling) where
  -- how a value can have been accepted: as an NTP or a PTP source, or as what is written as it was read
  data RefIs (v : List ℕ) : ReferenceClock → Type 0 where
    is_ntp : (a : NtpServerAddr) → starts (word "ntp=") v ≡ true → ntp_of 4 (drop 4 v) ≡ Ok a → RefIs v (clock.Ntp (ntp a))
    is_ptp_lem : (p : Ptp) → starts (word "ptp=") v ≡ true → ptp_of spelling 4 (drop 4 v) ≡ Ok p → RefIs v (clock.Ptp p)
    as_it_is : (c : ReferenceClock) → ref_meaning_text spelling (ref_meaning v c) ≡ v → reference_clock_inside v c ≡ true
        → in_class (ref_meaning v c) ≡ false → RefIs v c

  ext_is : (v : List ℕ) (c : ReferenceClock) → (extension_of clock_source_ext 11 0 v >>= λ e. Ok (clock.Ext e)) ≡ Ok c → RefIs v c
  unfolding ref_meaning ref_meaning_text reference_clock_inside in_class
  ext_is v c h =
      let r = was_made (extension_of clock_source_ext 11 0 v) clock.Ext c h in
      let m = ext_means 0 v clock_source_ext (λ w i. ref_meaning w (clock.Ext i)) ref_ext (λ w n x. refl) 11 r.value r.is v refl in
      rw r.made
      (as_it_is (clock.Ext r.value) (ap (ref_meaning_text spelling) m ∙ ext_text v)
      (rw (ext_made 0 v clock_source_ext 11 r.value r.is) (ext_inside 0 v v (omega arith))) refl)

  -- a whole word: its text is itself
  word_is : (v : List ℕ) (c : ReferenceClock) (w : List ℕ) (d : ReferenceClock) → same v w ≡ true
      → ref_meaning_text spelling (ref_meaning v d) ≡ w → reference_clock_inside v d ≡ true → in_class (ref_meaning v d) ≡ false
      → ◌≡◌ {A = Answer ReferenceClock} (Ok d) (Ok c) → RefIs v c
  word_is v c w d e t i o h = let k : d ≡ c = cc in rw k at (as_it_is d (t ∙ sym (same_eq v w e)) i o)

  ref_is : (v : List ℕ) (c : ReferenceClock) → clock_of spelling v ≡ Ok c → RefIs v c
  unfolding clock_of ref_meaning ref_meaning_text reference_clock_inside in_class
  ref_is v c h =
      by_bool (starts (word "ntp=") v)
      (λ e. let r = was_made (ntp_of 4 (drop 4 v)) (λ w. clock.Ntp (ntp w)) c (simp e at h) in rw r.made (is_ntp r.value e r.is))
      (λ e. by_bool (starts (word "ptp=") v)
      (λ f. let r = was_made (ptp_of spelling 4 (drop 4 v)) clock.Ptp c (simp (e, f) at h) in rw r.made (is_ptp_lem r.value f r.is))
      (λ f. by_bool (same v (word "gps")) (λ a. word_is v c _ clock.Gps a refl refl refl (simp (e, f, a) at h))
      (λ a. by_bool (same v (word "gal")) (λ b. word_is v c _ clock.Gal b refl refl refl (simp (e, f, a, b) at h))
      (λ b. by_bool (same v (word "glonass")) (λ d. word_is v c _ clock.Glonass d refl refl refl (simp (e, f, a, b, d) at h))
      (λ d. by_bool (same v (word "local")) (λ g. word_is v c _ clock.Local g refl refl refl (simp (e, f, a, b, d, g) at h))
      (λ g. by_bool (same v (word "private"))
      (λ i. word_is v c _ (clock.Private private.Standard) i refl refl refl (simp (e, f, a, b, d, g, i) at h))
      (λ i. by_bool (same v (word "private:traceable"))
      (λ j. word_is v c _ (clock.Private private.Traceable) j refl refl refl (simp (e, f, a, b, d, g, i, j) at h))
      (λ j. ext_is v c (simp (e, f, a, b, d, g, i, j) at h)))))))))

  is_inside : Lawful spelling → (v : List ℕ) (c : ReferenceClock) → RefIs v c → reference_clock_inside v c ≡ true
  unfolding reference_clock_inside
  is_inside lawful v c (is_ntp a e k) = ntp_inside_lem (ntp_is v (drop 4 v) a refl k) v (omega (arith, starts_length (word "ntp=") v e))
  is_inside lawful v c (is_ptp_lem p e k) = ptp_inside spelling lawful v 4 (drop 4 v) p refl k
  is_inside lawful v c (as_it_is d t i o) = i

  -- what is told of the text t of a value v that means m
  record Written (v t : List ℕ) (m : RefMeaning) : Type 0 where
    pub short : length t ≤ length v + 2
    pub back : (reference_clock_of spelling t >>= λ d. Ok (ref_meaning t d)) ≡ read_back m t

  -- a text behind "ntp=" and one behind "ptp="
  clock_ntp : (x : List ℕ) → clock_of spelling (word "ntp=" ++ x) ≡ (ntp_of 4 x >>= λ w. Ok (clock.Ntp (ntp w)))
  unfolding clock_of same
  clock_ntp x = refl

  clock_ptp : (x : List ℕ) → clock_of spelling (word "ptp=" ++ x) ≡ (ptp_of spelling 4 x >>= λ p. Ok (clock.Ptp p))
  unfolding clock_of same
  clock_ptp x = refl

  ntp_written : (v s : List ℕ) (a : NtpServerAddr) (m : RefMeaning) → word "ntp=" ++ s ≡ v → length v ≤ 1024 → utf8_of v ≡ (Ok tt) → NtpIs s a m
      → Written v (word "ntp=" ++ ntp_text m) m
  unfolding ref_meaning reference_clock_of read_back
  ntp_written v s a m e l f i =
      let x = ntp_text m in
      let t = word "ntp=" ++ ntp_text m in
      let n : 4 + length s ≡ length v = omega (arith, ap length e) in
      let w : utf8_of (word "ntp=" ++ ntp_text m) ≡ (Ok tt) =
      utf8_append (word "ntp=") x (utf8_all_ascii (word "ntp=") refl) (ntp_form i (utf8_cut (word "ntp") 61 s (omega arith) (rw (← e) at f)).1) in
      let b : (clock_of spelling (word "ntp=" ++ ntp_text m) >>= λ d. Ok (ref_meaning (word "ntp=" ++ ntp_text m) d))
      ≡ cond (in_class m) (refuse 4 4 (length x)) (Ok m) =
      rw (clock_ntp x) (made_twice (ntp_of 4 x) (λ u. clock.Ntp (ntp u)) (ref_meaning t) ∙ ntp_back i t refl) in
      record {
        short = omega (arith, ntp_short i);
        back =
            by_bool (in_class m)
            (λ k. by_bool (ltb 1024 (length (word "ntp=" ++ ntp_text m))) (λ o. rw (k, o, guarded_long t (clock_of spelling t) (ltb-true 1024 (length t) o)))
            (λ o.
            let d : length (word "ntp=" ++ ntp_text m) - 4 ≡ length (ntp_text m) = omega arith in
            rw (k, o, guarded_well t (clock_of spelling t) (ltb-false 1024 (length t) o) w, d) (rw k at b)))
            (λ k. rw (k, guarded_well t (clock_of spelling t) (omega (arith, ntp_fits i (omega arith) k)) w) (rw k at b));
      }

  ptp_written : Lawful spelling → (v : List ℕ) (p : Ptp) → starts (word "ptp=") v ≡ true → ptp_of spelling 4 (drop 4 v) ≡ Ok p
      → length v ≤ 1024 → utf8_of v ≡ (Ok tt) → Written v (ref_meaning_text spelling (ref_meaning v (clock.Ptp p))) (ref_meaning v (clock.Ptp p))
  unfolding ref_meaning ref_meaning_text reference_clock_of read_back in_class
  ptp_written lawful v p e k l f =
      let told = ptp_told spelling lawful v 4 (drop 4 v) p refl k in
      let x = version_text (version_means v p.version) ++ 58 ∷ server_text spelling (server_means v p.server) in
      let t = word "ptp=" ++ x in
      let n = starts_length (word "ptp=") v e in
      let s : utf8_of (drop 4 v) ≡ (Ok tt) = (utf8_cut (word "ptp") 61 (drop 4 v) (omega arith) (rw (← starts_cut (word "ptp=") v e) at f)).1 in
      let w = utf8_append (word "ptp=") x (utf8_all_ascii (word "ptp=") refl) (told.form s) in
      record {
        short = omega (arith, told.short);
        back =
            rw (guarded_well t (clock_of spelling t) (omega (arith, told.short)) w, clock_ptp x)
            (made_twice (ptp_of spelling 4 x) clock.Ptp (ref_meaning t) ∙ told.back t refl);
      }

  -- what is written as it was read
  same_written : (v : List ℕ) (c : ReferenceClock) → ref_meaning_text spelling (ref_meaning v c) ≡ v → in_class (ref_meaning v c) ≡ false
      → reference_clock_of spelling v ≡ Ok c → Written v (ref_meaning_text spelling (ref_meaning v c)) (ref_meaning v c)
  unfolding read_back
  same_written v c e o h = rw e (record { short = omega arith; back = rw (h, o) })

  written : Lawful spelling → (v : List ℕ) (c : ReferenceClock) → reference_clock_of spelling v ≡ Ok c → length v ≤ 1024
      → utf8_of v ≡ (Ok tt) → RefIs v c → Written v (ref_meaning_text spelling (ref_meaning v c)) (ref_meaning v c)
  unfolding ref_meaning
  written lawful v c h l f (is_ntp a e k) =
      rw (ntp_text_lem spelling v a) (ntp_written v (drop 4 v) a (ntp_means v a) (starts_cut (word "ntp=") v e) l f (ntp_is v (drop 4 v) a refl k))
  written lawful v c h l f (is_ptp_lem p e k) = ptp_written lawful v p e k l f
  written lawful v c h l f (as_it_is d e i o) = same_written v c e o h

  -- two values of the class whose texts are equal mean the same
  module _ (v w : List ℕ) where
    class_same : (c d : ReferenceClock) → RefIs v c → RefIs w d → in_class (ref_meaning v c) ≡ true → in_class (ref_meaning w d) ≡ true
        → ref_meaning_text spelling (ref_meaning v c) ≡ ref_meaning_text spelling (ref_meaning w d) → ref_meaning v c ≡ ref_meaning w d
    unfolding ref_meaning in_class
    class_same c d (is_ntp a e k) (is_ntp b f n) x y q =
        ntp_class (ntp_is v (drop 4 v) a refl k) (ntp_is w (drop 4 w) b refl n) x y
        (ap (drop 4) (sym (ntp_text_lem spelling v a) ∙ q ∙ ntp_text_lem spelling w b))
    class_same c d (is_ntp a e k) (is_ptp_lem p f n) x y q = clash (cc)
    class_same c d (is_ntp a e k) (as_it_is g t i o) x y q = clash (cc)
    class_same c d (is_ptp_lem p e k) r x y q = clash (cc)
    class_same c d (as_it_is g t i o) r x y q = clash (cc)

  module _ (lawful : Lawful spelling) where
    module _ (v : List ℕ) (c : ReferenceClock) (h : reference_clock_of spelling v ≡ Ok c) where
      value : Accepted v (clock_of spelling v) c
      unfolding reference_clock_of
      value = was_accepted v (clock_of spelling v) c h

      text : Written v (ref_meaning_text spelling (ref_meaning v c)) (ref_meaning v c)
      text = written lawful v c h value.fits value.form (ref_is v c value.is)

      pub ref_fits : length v ≤ 1024
      ref_fits = value.fits

      pub ref_inside : reference_clock_inside v c ≡ true
      ref_inside = is_inside lawful v c (ref_is v c value.is)

      pub ref_short : length (ref_meaning_text spelling (ref_meaning v c)) ≤ length v + 2
      ref_short = text.short

      pub ref_back : let t = ref_meaning_text spelling (ref_meaning v c) in
          (reference_clock_of spelling t >>= λ d. Ok (ref_meaning t d)) ≡ read_back (ref_meaning v c) t
      ref_back = text.back

    pub ref_texts : (v w : List ℕ) (c d : ReferenceClock) → reference_clock_of spelling v ≡ Ok c → reference_clock_of spelling w ≡ Ok d
        → ref_meaning_text spelling (ref_meaning v c) ≡ ref_meaning_text spelling (ref_meaning w d) → ref_meaning v c ≡ ref_meaning w d
    unfolding read_back
    ref_texts v w c d h k e =
        let s : read_back (ref_meaning v c) (ref_meaning_text spelling (ref_meaning v c)) ≡ read_back (ref_meaning w d) (ref_meaning_text spelling (ref_meaning w d)) =
        sym (ref_back v c h) ∙ ap (λ (t : List ℕ). reference_clock_of spelling t >>= λ d. Ok (ref_meaning t d)) e ∙ ref_back w d k in
        by_bool (in_class (ref_meaning v c))
        (λ x. by_bool (in_class (ref_meaning w d))
        (λ y. class_same v w c d (ref_is v c (value v c h).is) (ref_is w d (value w d k).is) x y e)
        (λ y. clash (cc (simp (x, y) at s))))
        (λ x. by_bool (in_class (ref_meaning w d)) (λ y. clash (cc (simp (x, y) at s))) (λ y. cc (simp (x, y) at s)))
