-- One law for each way out of this crate's functions, and the invariant of its loops. Assumes nothing.
use Rattle.std.specs.Prelude.{Result, Ok, Err}
use Prim.Native.Nat.{ℕ, suc, ◌+◌, ◌*◌, ◌^◌, ◌≤◌, ◌<◌}
use mathlib.Core.Path.{◌≡◌, refl, sym, ap, ◌∙◌}
use mathlib.Core.List.{List, [], ◌∷◌, ◌++◌, append_assoc}
use mathlib.Core.Bool.{Bool, true, false}
use native.Mathlib.Nat.{le_of_eq, suc-mul}
use native.Mathlib.Numerals.{add-one}
use native.Mathlib.Omega.{arith}
use lib.Dec.{eqb}
use lib.ListN.{length, length-append}
use lib.Seq.{length-sets}
use borrow.Author.Tests.{eq-eqb, ne_eqb}
use Rattle.text.specs.Word.{word}
use Rattle.text.specs.Place.{Lent, PartAt}
use Rattle.number.specs.Decimal.{decimal}
use Rattle.clock.specs.declared.Refusal.{Refusal}
use Rattle.clock.specs.declared.ReferenceClock.{ReferenceClock}
use Rattle.meaning.specs.ReferenceClock.{read_reference_clock}
use Rattle.meaning.specs.Text.{reference_clock_text}
use Rattle.room.specs.Put.{Put}
use Rattle.room.proofs.Laws.{put_none, put_then, put_wider}
use Rattle.report.proofs.Bounds.{Writable, ref_writable}
use Rattle.slots.specs.Slot.{streams_at, value_place, value_at, taken_slots, stream_sum}
use Rattle.slots.proofs.Laws.{value_bytes}
use Rattle.counts.specs.State.{used_in, domain_count}
use Rattle.counts.specs.declared.Census.{Census}
use Rattle.roll.specs.declared.Roll.{Roll}
use Rattle.rolltext.specs.Printing.{in_turn, counted_text, clock_line, domain_text, domain_line, counts_text, totals_text, totals_line}
use Rattle.rolltext.specs.Printing.{roll_text, warning_text}
use Rattle.rolltext.specs.Private.Front.{totals_front, totals_most}

-- `put_counted`
module _ {v t : List ℕ} {inside : Bool} (can : Writable v inside t) (n : ℕ) {most at a b c : ℕ} {l₀ l₁ l₂ l₃ : List ℕ}
    (p : Put 10 l₀ at (decimal n) a l₁) (q : Put 1 l₁ a (32 ∷ []) b l₂) (r : Put most l₂ b t c l₃) where
  pub counted_put : (d : ℕ) (l₄ : List ℕ) → Put 1 l₃ c (10 ∷ []) d l₄ → Put 1038 l₀ at (counted_text n t) d l₄
  unfolding counted_text
  counted_put d l₄ s =
      let all = put_then (put_then (put_then p q) r) s in
      record {
        place = all.place;
        bound = simp length-append (omega (arith, p.bound, can.longer, can.short));
        bytes = all.bytes;
        reach = all.reach;
      }

-- nothing is put
empty_put : (k : ℕ) (l : List ℕ) (at : ℕ) → at < 2 ^ 64 → length l < 2 ^ 64 → Put k l at [] at l
empty_put k l at h z = put_wider (put_none l at h z) (omega arith)

-- `put_clock`
module _ (memory : Lent) (i n : ℕ) (en : n ≡ streams_at memory.now i) where
  pub clock_free : n ≡ 0 → (l : List ℕ) (at : ℕ) → at < 2 ^ 64 → length l < 2 ^ 64 → Put 1038 l at (clock_line memory.now i) at l
  unfolding clock_line
  clock_free e l at h z = simp (eq-eqb (streams_at memory.now i) 0 (sym en ∙ e)) (empty_put 1038 l at h z)

  module _ (f : n ≡ 0 → ⊥) (v : Lent) (is : PartAt memory (value_place memory.now i) v)
      (y : Result ReferenceClock Refusal) (ey : y ≡ read_reference_clock v.now) where
    there : v.now ≡ value_at memory.now i
    there = value_bytes memory v i is

    taken : eqb (streams_at memory.now i) 0 ≡ false
    taken = ne_eqb (streams_at memory.now i) 0 (λ e. f (en ∙ e))

    pub clock_refused : (r : Refusal) → y ≡ Err r → (l : List ℕ) (at : ℕ) → at < 2 ^ 64 → length l < 2 ^ 64
        → Put 1038 l at (clock_line memory.now i) at l
    unfolding clock_line
    clock_refused r e l at h z = simp (taken, ← there, ← ey, e) (empty_put 1038 l at h z)

    pub clock_put : (c : ReferenceClock) → y ≡ Ok c → (l l' : List ℕ) (at next : ℕ)
        → Put 1038 l at (counted_text n (reference_clock_text v.now c)) next l' → Put 1038 l at (clock_line memory.now i) next l'
    unfolding clock_line
    clock_put c e l l' at next p = simp (taken, ← there, ← ey, e, ← en) p

pub clock_read : (v : List ℕ) (y : Result ReferenceClock Refusal) → y ≡ read_reference_clock v → (c : ReferenceClock) → y ≡ Ok c
    → Ok c ≡ read_reference_clock v
clock_read v y ey c e = sym e ∙ ey

-- `put_clocks` and `put_domains`: of n texts f 0, f 1 and so on, each of at most k bytes, the first i are put
pub record RowsPut (f : ℕ → List ℕ) (k n : ℕ) (l : List ℕ) (from i at : ℕ) (m : List ℕ) : Type 0 where
  pub within : i ≤ n
  pub size : length m ≡ length l
  pub so_far : Put (i * k) l from (in_turn i f) at m

pub rows_start : (f : ℕ → List ℕ) (k n : ℕ) (l : List ℕ) (from : ℕ) → from < 2 ^ 64 → length l < 2 ^ 64 → RowsPut f k n l from 0 from l
unfolding in_turn
rows_start f k n l from h z = record { within = omega arith; size = refl; so_far = empty_put (0 * k) l from h z }

module _ {f : ℕ → List ℕ} {k n : ℕ} {l : List ℕ} {from i at : ℕ} {m : List ℕ} (p : RowsPut f k n l from i at m) where
  pub rows_more : i < n → (next : ℕ) (r : List ℕ) → Put k m at (f i) next r → RowsPut f k n l from (i + 1) next r
  unfolding in_turn
  rows_more h next r q =
      let all : Put (i * k + k) l from (in_turn (suc i) f) next r = put_then p.so_far q in
      record {
        within = omega arith;
        size = ap length q.bytes ∙ length-sets m at (f i) ∙ p.size;
        so_far = rw add-one (put_wider all (le_of_eq (sym (suc-mul i k))));
      }

  pub rows_end : n ≤ i → Put (n * k) l from (in_turn n f) at m
  rows_end h = let e : i ≡ n = omega (arith, p.within) in rw e at p.so_far

-- `put_item`
pub item_put : (k at next last n : ℕ) (l m r w : List ℕ) → k ≤ 11 → Put k l at w next m → Put 20 m next (decimal n) last r
    → Put 31 l at (w ++ decimal n) last r
item_put k at next last n l m r w h p q = put_wider (put_then p q) (omega arith)

-- `put_in_domain`, `put_front`, `put_most` and `put_numbers`: a text, and then an item
then_item : {j k at next last : ℕ} {l m r s : List ℕ} (w d : List ℕ) → Put j l at s next m → Put k m next (w ++ d) last r
    → Put (j + k) l at (s ++ w ++ d) last r
then_item {s = s} w d p q = rw (append_assoc s w d) (put_then p q)

module _ (at a b c : ℕ) (l₀ l₁ l₂ l₃ : List ℕ) where
  pub in_domain_put : (number n : ℕ) → Put 31 l₀ at (word "domain " ++ decimal number) a l₁ → Put 31 l₁ a (word " " ++ decimal n) b l₂
      → Put 1 l₂ b (10 ∷ []) c l₃ → Put 63 l₀ at (domain_text number n) c l₃
  unfolding domain_text
  in_domain_put number n p q r = put_then (then_item (word " ") (decimal n) p q) r

  pub front_put : (lines streams clocks : ℕ) → Put 31 l₀ at (word "lines " ++ decimal lines) a l₁
      → Put 31 l₁ a (word " streams " ++ decimal streams) b l₂ → Put 31 l₂ b (word " clocks " ++ decimal clocks) c l₃
      → Put 93 l₀ at (totals_front lines streams clocks) c l₃
  front_put lines streams clocks p q r = then_item (word " clocks ") (decimal clocks) (then_item (word " streams ") (decimal streams) p q) r

  pub most_put : (lines streams clocks counted refused : ℕ) → Put 93 l₀ at (totals_front lines streams clocks) a l₁
      → Put 31 l₁ a (word " counted " ++ decimal counted) b l₂ → Put 31 l₂ b (word " refused " ++ decimal refused) c l₃
      → Put 155 l₀ at (totals_most lines streams clocks counted refused) c l₃
  most_put lines streams clocks counted refused p q r =
      then_item (word " refused ") (decimal refused) (then_item (word " counted ") (decimal counted) p q) r

  pub numbers_put : (lines streams clocks counted refused uncounted : ℕ) → Put 155 l₀ at (totals_most lines streams clocks counted refused) a l₁
      → Put 31 l₁ a (word " uncounted " ++ decimal uncounted) b l₂ → Put 1 l₂ b (10 ∷ []) c l₃
      → Put 187 l₀ at (totals_text lines streams clocks counted refused uncounted) c l₃
  unfolding totals_text
  numbers_put lines streams clocks counted refused uncounted p q r = put_then (then_item (word " uncounted ") (decimal uncounted) p q) r

-- `put_domain`
module _ (c : Census) (d n : ℕ) (en : n ≡ domain_count c d) where
  pub domain_none : n ≡ 0 → (l : List ℕ) (at : ℕ) → at < 2 ^ 64 → length l < 2 ^ 64 → Put 63 l at (domain_line c d) at l
  unfolding domain_line
  domain_none e l at h z = simp (eq-eqb (domain_count c d) 0 (sym en ∙ e)) (empty_put 63 l at h z)

  pub domain_put : (n ≡ 0 → ⊥) → (at next : ℕ) (l l' : List ℕ) → Put 63 l at (domain_text d n) next l' → Put 63 l at (domain_line c d) next l'
  unfolding domain_line
  domain_put f at next l l' p = simp (ne_eqb (domain_count c d) 0 (λ e. f (en ∙ e)), ← en) p

-- `put_totals`
pub totals_put : (r : Roll) (m : List ℕ) (at next clocks counted : ℕ) (l l' : List ℕ) → clocks ≡ taken_slots m (used_in r.census)
    → counted ≡ stream_sum m (used_in r.census)
    → Put 187 l at (totals_text r.lines r.streams clocks counted r.census.refused r.uncounted) next l'
    → Put 187 l at (totals_line r m) next l'
unfolding totals_line
totals_put r m at next clocks counted l l' ek es p = rw (← ek, ← es) p

-- `put_counts`
pub counts_put : (c : Census) (m : List ℕ) (used a b : ℕ) (l₀ l₁ l₂ : List ℕ) → used ≡ used_in c
    → Put (used * 1038) l₀ 0 (in_turn used (clock_line m)) a l₁ → Put (128 * 63) l₁ a (in_turn 128 (domain_line c)) b l₂
    → Put 272754 l₀ 0 (counts_text c m) b l₂
unfolding counts_text
counts_put c m used a b l₀ l₁ l₂ e p q = put_wider (put_then (rw e at p) q) (omega arith)

-- `put_roll`
pub roll_put : (r : Roll) (m : List ℕ) (a b : ℕ) (l₀ l₁ l₂ : List ℕ) → Put 272754 l₀ 0 (counts_text r.census m) a l₁
    → Put 187 l₁ a (totals_line r m) b l₂ → Put 272941 l₀ 0 (roll_text r m) b l₂
unfolding roll_text
roll_put r m a b l₀ l₁ l₂ p q = put_then p q

-- `put_warning`
pub warning_none : (n : ℕ) → n ≡ 0 → (l : List ℕ) → length l < 2 ^ 64 → Put 67 l 0 (warning_text n) 0 l
unfolding warning_text
warning_none n e l z = simp (eq-eqb n 0 e) (empty_put 67 l 0 (omega arith) z)

pub warning_put : (n : ℕ) → (n ≡ 0 → ⊥) → (a b c : ℕ) (l₀ l₁ l₂ l₃ : List ℕ) → Put 21 l₀ 0 (word "streams not counted: ") a l₁
    → Put 10 l₁ a (decimal n) b l₂ → Put 36 l₂ b (word ", as there are more than 255 clocks\n") c l₃ → Put 67 l₀ 0 (warning_text n) c l₃
unfolding warning_text
warning_put n f a b c l₀ l₁ l₂ l₃ p q r = simp (ne_eqb n 0 f) (put_then (put_then p q) r)

pub ruleset laws = (
  ref_writable,
  counted_put,
  clock_free,
  clock_refused,
  clock_put,
  clock_read,
  rows_start,
  rows_more,
  rows_end,
  in_domain_put,
  domain_none,
  domain_put,
  item_put,
  front_put,
  most_put,
  numbers_put,
  totals_put,
  counts_put,
  roll_put,
  warning_none,
  warning_put,
)
