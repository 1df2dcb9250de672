-- One law for each way out of this crate's functions, and the invariants of their loops. Assumes nothing.
use Prim.Native.Nat.{ℕ, zero, suc, ◌+◌, ◌-◌, ◌*◌, ◌/◌, ◌%◌, ◌^◌, ◌≤◌, ◌<◌}
use mathlib.Core.Path.{◌≡◌, refl, sym, ap, ◌∙◌}
use mathlib.Core.List.{List, [], ◌∷◌, ◌++◌, append_assoc, append-nil}
use mathlib.Core.Bool.{true}
use native.Mathlib.Numerals.{add-one}
use native.Mathlib.Omega.{arith}
use lib.Dec.{eqb}
use lib.ListN.{length, get_or, take, drop, set, length-append, length-set}
use lib.Seq.{length-sets, set_split, take-suc, take_all, take_at, length-take-le, drop_at, drop-length}
use Rattle.text.proofs.Bools.{each_below, each_below_lem}
use Rattle.text.proofs.Left.{rest_is}
use Rattle.number.specs.Decimal.{decimal}
use Rattle.number.proofs.Written.{decimal_one, decimal_more, decimal_length}
use borrow.Author.Tests.{eqb-true}
use Rattle.number.specs.Hex.{hex_capital, hex_small, hex_capitals, hex_bytes}
use Rattle.eui64.specs.Eui64.{segment_text, segments_text, eui64_text}
use Rattle.room.specs.Put.{Put}
use Rattle.room.proofs.Laws.{put_none, put_then, put_wider}

-- a byte stored right before those that stand from `first` on
drop_set : (l : List ℕ) (first b : ℕ) → 0 < first → first ≤ length l → drop (first - 1) (set l (first - 1) b) ≡ b ∷ drop first l
drop_set l first b h k =
    let f : suc (first - 1) ≡ first = omega arith in
    ap (drop (first - 1)) (set_split l (first - 1) b (omega arith))
    ∙ drop_at (take (first - 1) l) (b ∷ drop (suc (first - 1)) l) (first - 1) (length-take-le (first - 1) l (omega arith))
    ∙ ap (λ (n : ℕ). b ∷ drop n l) f

-- `put_digits`: the digits of n are those of what is left, and those that stand from `first` on
pub record Spelled (n : ℕ) (digits : List ℕ) (first left : ℕ) : Type 0 where
  pub size : length digits ≡ 20
  pub within : first ≤ 20
  pub small : left < 2 ^ 64
  pub all : length (decimal n) ≤ 20
  pub enough : length (decimal left) ≤ first
  pub so_far : decimal n ≡ decimal left ++ drop first digits

pub spelled_start : (n : ℕ) (digits : List ℕ) → length digits ≡ 20 → n < 2 ^ 64 → Spelled n digits 20 n
spelled_start n digits e h =
    let f : length (decimal n) ≤ 20 = decimal_length 19 n (omega arith) (omega arith) in
    record {
      size = e;
      within = omega arith;
      small = h;
      all = f;
      enough = f;
      so_far = sym (rw (← e, drop-length) (append-nil (decimal n)));
    }

module _ {n : ℕ} {digits : List ℕ} {first left : ℕ} (p : Spelled n digits first left) where
  module _ (h : 10 ≤ left) where
    longer : decimal left ≡ decimal (left / 10) ++ (48 + left % 10) ∷ []
    longer = decimal_more left h (omega (arith, p.small))

    length_longer : length (decimal left) ≡ length (decimal (left / 10)) + 1
    length_longer = ap length longer ∙ length-append (decimal (left / 10)) ((48 + left % 10) ∷ [])

    pub spelled_first : 1 ≤ first
    spelled_first = omega (arith, length_longer, p.enough)

    pub spelled_next : Spelled n (set digits (first - 1) (48 + left % 10)) (first - 1) (left / 10)
    spelled_next =
        let d : ℕ = 48 + left % 10 in
        record {
          size = length-set digits (first - 1) d ∙ p.size;
          within = omega (arith, p.within);
          small = omega (arith, p.small);
          all = p.all;
          enough = omega (arith, length_longer, p.enough);
          so_far =
              p.so_far
              ∙ ap (λ (s : List ℕ). s ++ drop first digits) longer
              ∙ append_assoc (decimal (left / 10)) (d ∷ []) (drop first digits)
              ∙ ap (λ (s : List ℕ). decimal (left / 10) ++ s)
              (sym (drop_set digits first d (omega (arith, spelled_first)) (omega (arith, p.size, p.within))));
        }

  module _ (h : left < 10) where
    spelled : decimal n ≡ (48 + left) ∷ take (20 - first) (drop first digits)
    spelled = p.so_far ∙ simp (decimal_one left h) (ap (λ (s : List ℕ). (48 + left) ∷ s) (sym (rw p.size at (rest_is first digits))))

    few : length (take (20 - first) (drop first digits)) + 1 ≡ length (decimal n)
    few = omega (arith, ap length spelled)

    pub spelled_end : {at next last : ℕ} {l m r : List ℕ} → Put 1 l at ((48 + left) ∷ []) next m
        → Put (length (take (20 - first) (drop first digits))) m next (take (20 - first) (drop first digits)) last r
        → Put (length (decimal n)) l at (decimal n) last r
    spelled_end q t = rw spelled (put_wider (put_then q t) (omega (arith, few)))

-- `put_decimal` and `put_decimal_u64`: `m` is the number at 64 bits
module _ {n m at next : ℕ} {l r : List ℕ} (e : m ≡ n) (p : Put (length (decimal m)) l at (decimal m) next r) where
  pub ten_put : n < 2 ^ 32 → Put 10 l at (decimal n) next r
  ten_put h = rw e at (put_wider p (decimal_length 9 m (omega (arith, e)) (omega (arith, e))))

  pub twenty_put : n < 2 ^ 64 → Put 20 l at (decimal n) next r
  twenty_put h = rw e at (put_wider p (decimal_length 19 m (omega (arith, e)) (omega (arith, e))))

-- `hex_capital`, `hex_small`: a table of sixteen has each digit at its place
abbrev capitals : List ℕ
capitals = 48 ∷ 49 ∷ 50 ∷ 51 ∷ 52 ∷ 53 ∷ 54 ∷ 55 ∷ 56 ∷ 57 ∷ 65 ∷ 66 ∷ 67 ∷ 68 ∷ 69 ∷ 70 ∷ []

abbrev smalls : List ℕ
smalls = 48 ∷ 49 ∷ 50 ∷ 51 ∷ 52 ∷ 53 ∷ 54 ∷ 55 ∷ 56 ∷ 57 ∷ 97 ∷ 98 ∷ 99 ∷ 100 ∷ 101 ∷ 102 ∷ []

table_is : (l : List ℕ) (f : ℕ → ℕ) → each_below 16 (λ d. eqb (get_or l d 0) (f d)) ≡ true → (d : ℕ) → d < 16 → get_or l d 0 ≡ f d
table_is l f e d h = eqb-true (get_or l d 0) (f d) (each_below_lem 16 (λ k. eqb (get_or l k 0) (f k)) e d h)

pub capital_table : (d : ℕ) → d < 16 → get_or capitals d 0 ≡ hex_capital d
unfolding hex_capital
capital_table = table_is capitals hex_capital refl

pub small_table : (d : ℕ) → d < 16 → get_or smalls d 0 ≡ hex_small d
unfolding hex_small
small_table = table_is smalls hex_small refl

-- `put_eui64`: the last k segments of a number, each with a dash behind it
unfoldable pub dashed : ℕ → ℕ → List ℕ
dashed zero n = []
dashed (suc k) n = segments_text k n ++ 45 ∷ []

last_dashed : (k n : ℕ) → segments_text k n ≡ dashed k (n / 256) ++ segment_text (n % 256)
unfolding segments_text dashed
last_dashed zero n = refl
last_dashed (suc k) n = sym (append_assoc (segments_text k (n / 256)) (45 ∷ []) (segment_text (n % 256)))

-- those of the number are those of what is left, and those that stand from the place of the k-th on
pub record InDashed (id : ℕ) (text : List ℕ) (k left : ℕ) : Type 0 where
  pub size : length text ≡ 24
  pub within : k ≤ 8
  pub so_far : eui64_text id ++ 45 ∷ [] ≡ dashed k left ++ drop (k * 3) text

pub dashed_start : (id : ℕ) (text : List ℕ) → length text ≡ 24 → InDashed id text 8 id
unfolding eui64_text dashed
dashed_start id text e =
    let f : drop 24 text ≡ [] = ap (λ (k : ℕ). drop k text) (sym e) ∙ drop-length text in
    record { size = e; within = omega arith; so_far = sym (rw f (append-nil (segments_text 7 id ++ 45 ∷ []))) }

drop_here : (l : List ℕ) (i b : ℕ) → i < length l → drop i (set l i b) ≡ b ∷ drop (i + 1) l
drop_here l i b h =
    let f : i + 1 - 1 ≡ i = omega arith in
    rw f at (drop_set l (i + 1) b (omega arith) (omega arith))

three_set : (l : List ℕ) (i x y z : ℕ) → i + 2 < length l
    → drop i (set (set (set l (i + 2) z) (i + 1) y) i x) ≡ x ∷ y ∷ z ∷ drop (i + 3) l
three_set l i x y z h =
    let a : List ℕ = set l (i + 2) z in
    let b : List ℕ = set a (i + 1) y in
    let e : i + 1 + 1 ≡ i + 2 = omega arith in
    let f : i + 2 + 1 ≡ i + 3 = omega arith in
    drop_here b i x (omega (arith, length-set a (i + 1) y, length-set l (i + 2) z))
    ∙ ap (λ (s : List ℕ). x ∷ s)
    (rw e at (drop_here a (i + 1) y (omega (arith, length-set l (i + 2) z)))
    ∙ ap (λ (s : List ℕ). y ∷ s) (rw f at (drop_here l (i + 2) z h)))

module _ {id : ℕ} {text : List ℕ} {k left : ℕ} (p : InDashed id text k left) where
  pub dashed_place : 0 < k → (k - 1) * 3 + 2 < 24
  dashed_place h = omega (arith, p.within)

  pub dashed_next : (x y : ℕ) → 0 < k → x ≡ hex_capital (left % 256 / 16) → y ≡ hex_capital (left % 256 % 16)
      → InDashed id (set (set (set text ((k - 1) * 3 + 2) 45) ((k - 1) * 3 + 1) y) ((k - 1) * 3) x) (k - 1) (left / 256)
  unfolding dashed
  dashed_next x y h ex ey =
      let m : ℕ = k - 1 in
      let i : ℕ = m * 3 in
      let a : List ℕ = set text (i + 2) 45 in
      let b : List ℕ = set a (i + 1) y in
      let e : k ≡ suc m = omega arith in
      let f : suc m * 3 ≡ i + 3 = omega arith in
      record {
        size = length-set b i x ∙ length-set a (i + 1) y ∙ length-set text (i + 2) 45 ∙ p.size;
        within = omega (arith, p.within);
        so_far =
            p.so_far
            ∙ ap (λ (j : ℕ). dashed j left ++ drop (j * 3) text) e
            ∙ append_assoc (segments_text m left) (45 ∷ []) (drop (suc m * 3) text)
            ∙ ap (λ (s : List ℕ). s ++ 45 ∷ drop (suc m * 3) text) (last_dashed m left)
            ∙ append_assoc (dashed m (left / 256)) (segment_text (left % 256)) (45 ∷ drop (suc m * 3) text)
            ∙ ap (λ (s : List ℕ). dashed m (left / 256) ++ s)
            (ap (λ (u : ℕ). u ∷ hex_capital (left % 256 % 16) ∷ 45 ∷ drop (suc m * 3) text) (sym ex)
            ∙ ap (λ (u : ℕ). x ∷ u ∷ 45 ∷ drop (suc m * 3) text) (sym ey)
            ∙ ap (λ (j : ℕ). x ∷ y ∷ 45 ∷ drop j text) f
            ∙ sym (three_set text i x y 45 (omega (arith, p.size, p.within))));
      }

  pub dashed_count : 23 ≡ length (take 23 text)
  dashed_count = sym (length-take-le 23 text (omega (arith, p.size)))

  pub dashed_end : (at next : ℕ) (l m : List ℕ) → k ≤ 0 → Put (length (take 23 text)) l at (take 23 text) next m → Put 23 l at (eui64_text id) next m
  unfolding dashed
  dashed_end at next l m h q =
      let e : k ≡ 0 = omega arith in
      let all : eui64_text id ++ 45 ∷ [] ≡ text = p.so_far ∙ ap (λ (j : ℕ). dashed j left ++ drop (j * 3) text) e in
      let n : length (eui64_text id) ≡ 23 = omega (arith, ap length all, length-append (eui64_text id) (45 ∷ []), p.size) in
      let t : take 23 text ≡ eui64_text id = ap (take 23) (sym all) ∙ take_at (eui64_text id) (45 ∷ []) 23 n in
      let w : length (take 23 text) ≤ 23 = omega (arith, length-take-le 23 text (omega (arith, p.size))) in
      rw t at (put_wider q w)

-- `put_hex_u64`: the digits of n are those of what is left, and those that stand from `first` on
pub record InHex (n : ℕ) (digits : List ℕ) (first left : ℕ) : Type 0 where
  pub size : length digits ≡ 16
  pub within : first ≤ 16
  pub so_far : hex_capitals 16 n ≡ hex_capitals first left ++ drop first digits

pub in_hex_start : (n : ℕ) (digits : List ℕ) → length digits ≡ 16 → InHex n digits 16 n
in_hex_start n digits e =
    let f : drop 16 digits ≡ [] = ap (λ (k : ℕ). drop k digits) (sym e) ∙ drop-length digits in
    record { size = e; within = omega arith; so_far = sym (rw f (append-nil (hex_capitals 16 n))) }

hex_longer : (k n x : ℕ) → 0 < k → x ≡ hex_capital (n % 16) → hex_capitals k n ≡ hex_capitals (k - 1) (n / 16) ++ x ∷ []
unfolding hex_capitals
hex_longer k n x h e =
    let f : k ≡ suc (k - 1) = omega arith in
    ap (λ (j : ℕ). hex_capitals j n) f ∙ ap (λ (y : ℕ). hex_capitals (k - 1) (n / 16) ++ y ∷ []) (sym e)

hex_none : (k n : ℕ) (digits : List ℕ) → k ≤ 0 → hex_capitals k n ++ drop k digits ≡ digits
unfolding hex_capitals
hex_none k n digits h = let f : k ≡ 0 = omega arith in ap (λ (j : ℕ). hex_capitals j n ++ drop j digits) f

module _ {n : ℕ} {digits : List ℕ} {first left : ℕ} (p : InHex n digits first left) where
  pub in_hex_next : (x : ℕ) → 0 < first → x ≡ hex_capital (left % 16) → InHex n (set digits (first - 1) x) (first - 1) (left / 16)
  in_hex_next x h e =
      record {
        size = length-set digits (first - 1) x ∙ p.size;
        within = omega (arith, p.within);
        so_far =
            p.so_far
            ∙ ap (λ (s : List ℕ). s ++ drop first digits) (hex_longer first left x h e)
            ∙ append_assoc (hex_capitals (first - 1) (left / 16)) (x ∷ []) (drop first digits)
            ∙ ap (λ (s : List ℕ). hex_capitals (first - 1) (left / 16) ++ s) (sym (drop_set digits first x h (omega (arith, p.size, p.within))));
      }

  pub in_hex_end : (at next : ℕ) (l m : List ℕ) → first ≤ 0 → Put (length digits) l at digits next m → Put 16 l at (hex_capitals 16 n) next m
  in_hex_end at next l m h q = rw (p.so_far, hex_none first left digits h) (put_wider q (omega (arith, p.size)))

-- `put_hex_byte`
pub hex_byte_put : (b x y at next last : ℕ) (l m r : List ℕ) → x ≡ hex_small (b / 16) → y ≡ hex_small (b % 16)
    → Put 1 l at (x ∷ []) next m → Put 1 m next (y ∷ []) last r → Put 2 l at (hex_bytes (b ∷ [])) last r
unfolding hex_bytes
hex_byte_put b x y at next last l m r e f p q = rw (← e, ← f) (put_then p q)

-- `put_hex_bytes`: the first i bytes of the text s are put
pub record HexPut (l : List ℕ) (at : ℕ) (s : List ℕ) (i to : ℕ) (m : List ℕ) : Type 0 where
  pub within : i ≤ length s
  pub size : length m ≡ length l
  pub so_far : Put (2 * i) l at (hex_bytes (take i s)) to m

hex_append : (s t : List ℕ) → hex_bytes (s ++ t) ≡ hex_bytes s ++ hex_bytes t
unfolding hex_bytes
hex_append [] t = refl
hex_append (b ∷ s) t = ap (λ (x : List ℕ). hex_small (b / 16) ∷ hex_small (b % 16) ∷ x) (hex_append s t)

pub hex_start : (l : List ℕ) (at : ℕ) (s : List ℕ) → at < 2 ^ 64 → length l < 2 ^ 64 → HexPut l at s 0 at l
unfolding hex_bytes
hex_start l at s h k = record { within = omega arith; size = refl; so_far = put_none l at h k }

module _ {l : List ℕ} {at : ℕ} {s : List ℕ} {i to : ℕ} {m : List ℕ} (p : HexPut l at s i to m) where
  pub hex_more : (next : ℕ) (r : List ℕ) → i < length s → Put 2 m to (hex_bytes (get_or s i 0 ∷ [])) next r → HexPut l at s (i + 1) next r
  hex_more next r h q =
      record {
        within = omega arith;
        size = ap length q.bytes ∙ length-sets m to (hex_bytes (get_or s i 0 ∷ [])) ∙ p.size;
        so_far = rw (add-one, take-suc s i 0, hex_append) (put_wider (put_then p.so_far q) (omega arith));
      }

  pub hex_end : length s ≤ i → Put (2 * length s) l at (hex_bytes s) to m
  hex_end h = let k : 2 * i ≤ 2 * length s = omega (arith, p.within) in rw (take_all i s h) at (put_wider p.so_far k)

pub ruleset laws = (
  spelled_start,
  spelled_first,
  spelled_next,
  spelled_end,
  ten_put,
  twenty_put,
  capital_table,
  small_table,
  dashed_start,
  dashed_place,
  dashed_next,
  dashed_count,
  dashed_end,
  in_hex_start,
  in_hex_next,
  in_hex_end,
  hex_byte_put,
  hex_start,
  hex_more,
  hex_end,
)
