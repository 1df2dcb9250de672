-- One law for each way out of this crate's functions, the invariants of their loops, and the laws by which puts compose. Assumes nothing.
use Rattle.std.proofs.Common.{◌≡◌, ℕ, suc, ◌+◌, ◌^◌, ◌<◌, ◌≤◌, min, leb, List, [], ◌∷◌, ◌++◌, length, get_or, take, drop, set, sym, refl, ap, ◌∙◌, add-zero, add-suc, suc-add, add-one, arith, length-append, length-take-le, take_all, take-suc, leb-false, leb-true}
use lib.Seq.{sets, length-sets, sets-eq, set_out}
use Rattle.text.specs.declared.Place.{Place}
use Rattle.text.specs.Place.{Lent, PartAt, bytes_at}
use Rattle.text.proofs.Bools.{by_bool}
use Rattle.text.proofs.Cuts.{bytes_short}
use Rattle.room.specs.Put.{last_place, behind, Put}

-- a text and then another, stored
pub sets_append : (l : List ℕ) (at : ℕ) (s t : List ℕ) → sets l at (s ++ t) ≡ sets (sets l at s) (at + length s) t
sets_append l at [] t = ap (λ (k : ℕ). sets l k t) (sym (add-zero at))
sets_append l at (a ∷ s) t =
    sets_append (set l at a) (suc at) s t
    ∙ ap (λ (k : ℕ). sets (sets (set l at a) (suc at) s) k t) (suc-add at (length s) ∙ sym (add-suc at (length s)))

-- behind the room's end nothing is stored
pub sets_behind : (l : List ℕ) (at : ℕ) (s : List ℕ) → length l ≤ at → sets l at s ≡ l
sets_behind l at [] h = refl
sets_behind l at (a ∷ s) h = ap (λ (m : List ℕ). sets m (suc at) s) (set_out l at a h) ∙ sets_behind l (suc at) s (omega arith)

-- where counting stopped, and where it would have gone, the same is stored
sets_stopped : (l : List ℕ) (next far : ℕ) (t : List ℕ) → next ≡ min far last_place → length l ≤ last_place → sets l next t ≡ sets l far t
sets_stopped l next far t e h =
    by_bool (leb far last_place)
    (λ b. let k : next ≡ far = omega (arith, e, leb-true far last_place b) in ap (λ (n : ℕ). sets l n t) k)
    (λ b.
    let k : last_place < far = leb-false far last_place b in
    sets_behind l next t (omega (arith, e)) ∙ sym (sets_behind l far t (omega arith)))

-- behind n bytes that are put from `at` on, the same is stored at the place where counting goes on
pub sets_next : (m : List ℕ) (at n : ℕ) (t : List ℕ) → length m ≤ last_place → sets m (behind at n) t ≡ sets m (at + n) t
sets_next m at n t h = sets_stopped m (behind at n) (at + n) t refl h

-- by these `grind` finds how puts compose
pub ruleset puts = (sets_append, sets_next, length-append)

-- How puts compose: nothing; a text, and then another behind it; and a wider bound.
pub put_none : (l : List ℕ) (at : ℕ) → at < 2 ^ 64 → length l < 2 ^ 64 → Put 0 l at [] at l
put_none l at h k = record { place = omega arith; bound = omega arith; bytes = refl; reach = omega arith }

pub put_then : {j k at next last : ℕ} {l m r s t : List ℕ} → Put j l at s next m → Put k m next t last r → Put (j + k) l at (s ++ t) last r
put_then {at = at} {next = next} {l = l} {m = m} {s = s} {t = t} p q =
    record {
      place = omega (arith, length-append s t, p.place, q.place);
      bound = omega (arith, length-append s t, p.bound, q.bound);
      bytes =
          q.bytes
          ∙ sets_stopped m next (at + length s) t p.place q.reach
          ∙ ap (λ (x : List ℕ). sets x (at + length s) t) p.bytes
          ∙ sym (sets_append l at s t);
      reach = p.reach;
    }

pub put_wider : {j k at next : ℕ} {l m s : List ℕ} → Put j l at s next m → j ≤ k → Put k l at s next m
put_wider p h = record { place = p.place; bound = omega (arith, p.bound); bytes = p.bytes; reach = p.reach }

-- a text at the front is measured by the place behind it, where its bound is a place
pub put_length : {k next : ℕ} {l m t : List ℕ} → Put k l 0 t next m → k ≤ last_place → next ≡ length t
put_length p h = omega (arith, p.place, p.bound)

-- a whole text at the front of a room that is long enough: the bytes behind it are as they were
pub put_front : {k next : ℕ} {l m t : List ℕ} → Put k l 0 t next m → length t ≤ length l → m ≡ t ++ drop (length t) l
put_front {l = l} {t = t} p h =
    let e : 0 + length t ≡ length t = omega arith in
    p.bytes ∙ sets-eq t l 0 (omega arith) ∙ ap (λ (k : ℕ). t ++ drop k l) e

-- `put_byte`
pub byte_behind : (l : List ℕ) (at b next : ℕ) → length l < 2 ^ 64 → length l ≤ at → next ≡ behind at 1 → Put 1 l at (b ∷ []) next l
byte_behind l at b next k h e = record { place = e; bound = omega arith; bytes = sym (set_out l at b h); reach = omega arith }

-- `store`: the first i bytes of the text s are stored
pub record Stored (l : List ℕ) (at : ℕ) (s : List ℕ) (i : ℕ) (m : List ℕ) : Type 0 where
  pub within : i ≤ length s
  pub size : length m ≡ length l
  pub so_far : m ≡ sets l at (take i s)

pub stored_start : (l : List ℕ) (at : ℕ) (s : List ℕ) → Stored l at s 0 l
stored_start l at s = record { within = omega arith; size = refl; so_far = refl }

module _ {l : List ℕ} {at : ℕ} {s : List ℕ} {i : ℕ} {m : List ℕ} (p : Stored l at s i m) where
  pub stored_more : i < length s → Stored l at s (i + 1) (set m (at + i) (get_or s i 0))
  stored_more h =
      let w : i ≤ length s = omega arith in
      let e : set m (at + i) (get_or s i 0) ≡ sets l at (take (i + 1) s) =
      ap (λ (x : List ℕ). set x (at + i) (get_or s i 0)) p.so_far
      ∙ sym (rw (add-one, take-suc s i 0, sets_append, length-take-le) refl) in
      record { within = omega arith; size = ap length e ∙ length-sets l at (take (i + 1) s); so_far = e }

  pub stored_all : length s ≤ i → m ≡ sets l at s
  stored_all h = p.so_far ∙ ap (sets l at) (take_all i s h)

  pub stored_room : at + length s ≤ length l → i < length s → at + i < length m
  stored_room h k = omega (arith, p.size)

-- `put_each`: the first i bytes of the text s are put
pub record EachPut (l : List ℕ) (at : ℕ) (s : List ℕ) (i to : ℕ) (m : List ℕ) : Type 0 where
  pub within : i ≤ length s
  pub size : length m ≡ length l
  pub so_far : Put i l at (take i s) to m

pub each_start : (l : List ℕ) (at : ℕ) (s : List ℕ) → at < 2 ^ 64 → length l < 2 ^ 64 → EachPut l at s 0 at l
each_start l at s h k = record { within = omega arith; size = refl; so_far = put_none l at h k }

module _ {l : List ℕ} {at : ℕ} {s : List ℕ} {i to : ℕ} {m : List ℕ} (p : EachPut l at s i to m) where
  pub each_more : (next : ℕ) (r : List ℕ) → i < length s → Put 1 m to (get_or s i 0 ∷ []) next r → EachPut l at s (i + 1) next r
  each_more next r h q =
      record {
        within = omega arith;
        size = ap length q.bytes ∙ length-sets m to (get_or s i 0 ∷ []) ∙ p.size;
        so_far = rw (add-one, take-suc s i 0) (put_wider (put_then p.so_far q) (omega arith));
      }

  pub each_end : length s ≤ i → Put (length s) l at s to m
  each_end h = let k : i ≤ length s = p.within in rw (take_all i s h) at (put_wider p.so_far k)

-- `put_part`
module _ (v : Lent) (p : Place) (part : Lent) (is : PartAt v p part) (at : ℕ) where
  short : length part.now ≤ length v.now
  short = rw is.bytes (bytes_short p v.now)

  pub part_put : (l : List ℕ) (next : ℕ) (m : List ℕ) → Put (length part.now) l at part.now next m
      → Put (length v.now) l at (bytes_at p v.now) next m
  part_put l next m q = rw is.bytes at (put_wider q short)

pub ruleset laws = (
  byte_behind,
  stored_start,
  stored_more,
  stored_all,
  stored_room,
  each_start,
  each_more,
  each_end,
  part_put,
)
