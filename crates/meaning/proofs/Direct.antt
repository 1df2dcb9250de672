-- A direct clock that was read: its text is no longer, and reads as the same clock at any place. Each part is told of by the parts that it is
-- made of, in one walk of its reader. Assumes nothing.
use Rattle.std.specs.Prelude.{Option, Some, None, Ok}
use Prim.Native.Nat.{ℕ, ◌+◌, ◌<◌}
use mathlib.Core.Path.{◌≡◌, refl, ◌∙◌}
use mathlib.Core.List.{List, ◌∷◌, ◌++◌}
use mathlib.Core.Bool.{true, cond}
use native.Mathlib.Omega.{arith}
use lib.Dec.{ltb, eqb, eqb-suc-zero}
use lib.ListN.{length, take, drop, length-append, length-drop}
use lib.Seq.{take-append_seam, drop-drop, drop-append-add}
use borrow.Author.Tests.{ltb-true}
use Rattle.text.specs.Find.{before}
use Rattle.text.specs.Word.{word, same, starts}
use Rattle.text.proofs.Ascii.{ascii_cons, ascii_append}
use Rattle.text.proofs.Bools.{by_bool, clash}
use Rattle.text.proofs.Cuts.{before_le, before_length, before_append, starts_long}
use Rattle.number.specs.Decimal.{decimal}
use Rattle.mediarecord.specs.Records.{rate, direct}
use Rattle.mediarecord.specs.declared.Direct.{Direct}
use Rattle.meaning.specs.Answer.{Answer, refuse, empty, number_at}
use Rattle.meaning.specs.MediaClock.{most32, denominator_of, ratio_of, rate_of, offset_of, direct_of}
use Rattle.meaning.specs.Meaning.{offset_means, rate_means}
use Rattle.meaning.specs.Text.{offset_text, rate_text}
use Rattle.meaning.proofs.Told.{through, was_made, was_made_of_two, joined}
use Rattle.meaning.proofs.Plain.{Plain, plain_behind, number_plain, number_free}
use Rattle.mediarecord.specs.declared.Rate.{Rate}

denominator_plain : (at : ℕ) (s : List ℕ) (d : ℕ) → denominator_of at s ≡ Ok d → Plain denominator_of s (decimal d) d
unfolding denominator_of
denominator_plain at s d h =
    let p = through (number_at most32 18 at s) (λ n. cond (eqb n 0) (refuse 18 at (length s)) (Ok n)) d h in
    by_bool (eqb p.value 0) (λ e. clash (cc (simp e at p.onward)))
    (λ e.
    let k : p.value ≡ d = cc (simp e at p.onward) in
    let i = number_plain most32 18 at s p.value (omega arith) p.is in
    rw (← k) (record { short = i.short; low = i.low; back = λ q. simp (i.back q, e) }))

-- a numerator, "/" and a denominator
abbrev ratio_out : ℕ → ℕ → List ℕ
ratio_out n d = decimal n ++ 47 ∷ decimal d

data RatioIs (s : List ℕ) : Option Rate → Type 0 where
  ratio : (n d : ℕ) → Plain ratio_of s (ratio_out n d) (Some (rate n d)) → RatioIs s (Some (rate n d))

module _ (at : ℕ) (s : List ℕ) where
  ratio_plain : (n d : ℕ) → before 47 s < length s → number_at most32 17 at (take (before 47 s) s) ≡ Ok n
      → denominator_of (at + (before 47 s + 1)) (drop (before 47 s + 1) s) ≡ Ok d → Plain ratio_of s (ratio_out n d) (Some (rate n d))
  unfolding ratio_of
  ratio_plain n d l hn hd =
      let p = number_plain most32 17 at (take (before 47 s) s) n (omega arith) hn in
      let q = denominator_plain (at + (before 47 s + 1)) (drop (before 47 s + 1) s) d hd in
      let j = joined 47 (decimal n) (decimal d) (number_free most32 17 at (take (before 47 s) s) n (omega arith) hn 47 refl) in
      record {
        short = omega (arith, p.short, q.short, before_length 47 s, length-drop (before 47 s + 1) s, length-append (decimal n) (47 ∷ decimal d));
        low = ascii_append (decimal n) (47 ∷ decimal d) p.low (ascii_cons 47 (decimal d) (omega arith) q.low);
        back = λ k. simp (j.first, j.found, j.front, j.behind, p.back k, q.back (k + (length (decimal n) + 1)));
      }

  ratio_is : (r : Option Rate) → ratio_of at s ≡ Ok r → RatioIs s r
  unfolding ratio_of
  ratio_is r h =
      let i = before 47 s in
      by_bool (ltb i (length s))
      (λ l.
      let p = was_made_of_two (number_at most32 17 at (take i s)) (denominator_of (at + (i + 1)) (drop (i + 1) s)) (λ n d. Some (rate n d)) r (simp l at h) in
      rw p.made (ratio p.first p.second (ratio_plain p.first p.second (ltb-true i (length s) l) p.is_first p.is_second)))
      (λ l. clash (cc (simp l at h)))

-- the text of a rate, with the space before it, where there is one
abbrev rate_out : Option Rate → List ℕ
rate_out r = rate_text (rate_means r)

-- what is left of a direct clock, read behind the space
abbrev left_of : ℕ → List ℕ → Answer (Option Rate)
left_of at s = rate_of at (drop 1 s)

rate_behind : (at : ℕ) (t : List ℕ) → rate_of at (word "rate=" ++ t) ≡ ratio_of (at + 5) t
unfolding rate_of same
rate_behind at t = simp eqb-suc-zero

left_plain : (at : ℕ) (s : List ℕ) (r : Option Rate) → left_of at s ≡ Ok r → Plain left_of s (rate_out r) r
unfolding rate_of
left_plain at s r h =
    by_bool (empty (drop 1 s))
    (λ e.
    let k : r ≡ None = cc (simp e at h) in
    rw k (record { short = omega arith; low = refl; back = λ p. refl }))
    (λ e. by_bool (starts (word "rate=") (drop 1 s))
    (λ f. go f r (ratio_is (at + 5) (drop 5 (drop 1 s)) r (simp (e, f) at h)))
    (λ f. clash (cc (simp (e, f) at h))))
  where
    go : starts (word "rate=") (drop 1 s) ≡ true → (r : Option Rate) → RatioIs (drop 5 (drop 1 s)) r → Plain left_of s (rate_out r) r
    go f r (ratio n d p) =
        let r = Some (rate n d) in
        let q = plain_behind rate_of r (word "rate=") (drop 1 s) (ratio_out n d) refl f p (λ k. rate_behind k (ratio_out n d) ∙ p.back (k + 5)) in
        record {
          short = omega (arith, q.short, starts_long (word "rate=") (drop 1 s) f, length-drop 1 s);
          low = ascii_cons 32 (word "rate=" ++ ratio_out n d) (omega arith) q.low;
          back = q.back;
        }

-- where there is a rate, its text begins with a space
rate_space : (r : Option Rate) → before 32 (rate_out r) ≡ 0
unfolding before
rate_space None = refl
rate_space (Some r) = refl

data OffsetIs (s : List ℕ) : Direct → Type 0 where
  offset : (n : ℕ) (r : Option Rate) → Plain offset_of s (decimal n ++ rate_out r) (direct (Some n) r) → OffsetIs s (direct (Some n) r)

module _ (at : ℕ) (s : List ℕ) where
  offset_plain : (n : ℕ) (r : Option Rate) → number_at most32 14 at (take (before 32 s) s) ≡ Ok n
      → left_of (at + (before 32 s + 1)) (drop (before 32 s) s) ≡ Ok r → Plain offset_of s (decimal n ++ rate_out r) (direct (Some n) r)
  unfolding offset_of
  offset_plain n r hn hr =
      let p = number_plain most32 14 at (take (before 32 s) s) n (omega arith) hn in
      let q = left_plain (at + (before 32 s + 1)) (drop (before 32 s) s) r hr in
      let f = before_append 32 (decimal n) (rate_out r) (number_free most32 14 at (take (before 32 s) s) n (omega arith) hn 32 refl) in
      let i : before 32 (decimal n ++ rate_out r) ≡ length (decimal n) = omega (arith, rate_space r) in
      record {
        short = omega (arith, p.short, q.short, before_length 32 s, before_le 32 s, length-drop (before 32 s) s, length-append (decimal n) (rate_out r));
        low = ascii_append (decimal n) (rate_out r) p.low q.low;
        back = λ k. simp (i, take-append_seam, drop-append-add, p.back k, q.back (k + (length (decimal n) + 1)));
      }

  offset_is : (d : Direct) → offset_of at s ≡ Ok d → OffsetIs s d
  unfolding offset_of
  offset_is d h =
      let i = before 32 s in
      let p = was_made_of_two (number_at most32 14 at (take i s)) (rate_of (at + (i + 1)) (drop (i + 1) s)) (λ n r. direct (Some n) r) d h in
      rw p.made (offset p.first p.second (offset_plain p.first p.second p.is_first (rw drop-drop p.is_second)))

-- the text of a direct clock behind its word
abbrev pub direct_out : Direct → List ℕ
direct_out d = offset_text (offset_means d.offset) ++ rate_out d.rate

direct_offset : (at : ℕ) (t : List ℕ) → direct_of at (word "=" ++ t) ≡ offset_of (at + 1) t
unfolding direct_of same
direct_offset at t = simp eqb-suc-zero

direct_left : (at : ℕ) (r : Option Rate) → left_of (at + 1) (rate_out r) ≡ Ok r → direct_of at (rate_out r) ≡ Ok (direct None r)
unfolding direct_of same
direct_left at None h = refl
direct_left at (Some r) h = simp (eqb-suc-zero, h)

pub direct_plain : (at : ℕ) (s : List ℕ) (d : Direct) → direct_of at s ≡ Ok d → Plain direct_of s (direct_out d) d
unfolding direct_of
direct_plain at s d h =
    by_bool (empty s)
    (λ e.
    let k : d ≡ direct None None = cc (simp e at h) in
    rw k (record { short = omega arith; low = refl; back = λ p. refl }))
    (λ e. by_bool (starts (word "=") s)
    (λ f. after f d (offset_is (at + 1) (drop 1 s) d (simp (e, f) at h)))
    (λ f. by_bool (starts (word " ") s)
    (λ g.
    let p = was_made (rate_of (at + 1) (drop 1 s)) (direct None) d (simp (e, f, g) at h) in
    rw p.made (alone p.value (left_plain (at + 1) s p.value p.is)))
    (λ g. clash (cc (simp (e, f, g) at h)))))
  where
    after : starts (word "=") s ≡ true → (d : Direct) → OffsetIs (drop 1 s) d → Plain direct_of s (direct_out d) d
    after f d (offset n r p) =
        let t = decimal n ++ rate_out r in
        plain_behind direct_of (direct (Some n) r) (word "=") s t refl f p (λ k. direct_offset k t ∙ p.back (k + 1))

    alone : (r : Option Rate) → Plain left_of s (rate_out r) r → Plain direct_of s (rate_out r) (direct None r)
    alone r p = record { short = p.short; low = p.low; back = λ at. direct_left at r (p.back (at + 1)) }
