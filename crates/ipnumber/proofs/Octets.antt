-- The octets of an IPv4address: those before a place are read. Assumes nothing.
use Prim.Native.Nat.{ℕ, suc, ◌+◌, ◌≤◌, ◌<◌}
use mathlib.Core.Path.{◌≡◌, refl, sym, ap, subst, ◌∙◌}
use mathlib.Core.Bool.{true, false}
use mathlib.Core.List.{List, [], ◌∷◌, ◌++◌, append-nil}
use native.Mathlib.Omega.{arith}
use native.Mathlib.Numerals.{add-one}
use lib.ListN.{length, take, set, length-set}
use lib.Seq.{take-suc-set, take_all}
use Rattle.std.specs.Prelude.{Option, Some, None}
use Rattle.text.specs.Find.{before}
use Rattle.text.proofs.Bools.{by_bool, clash}
use Rattle.text.proofs.Left.{rest, rest_is}
use Rattle.ipaddr.specs.Address.{ipv4address}
use Rattle.ipaddr.specs.Number.{octets_from, octets_of}
use Rattle.ipaddr.proofs.Four as four
use Rattle.ipaddr.proofs.Four.{Four}
use Rattle.ipaddr.proofs.Number.{octets_cut, octet_alone}
use Rattle.ipnumber.specs.Private.Holding.{octet_of, octets_read}
use Rattle.ipnumber.proofs.Held.{joined, octet_none, octet_some}

-- `read_octets`: i octets are read, and left is what is left of the text
pub record Octets (s : List ℕ) (os : List ℕ) (i : ℕ) (left : List ℕ) : Type 0 where
  pub four : length os ≡ 4
  pub dots : Four s i left
  pub so_far : take i os ++ octets_from 0 left ≡ octets_of s

pub octets_start : (s os : List ℕ) → length os ≡ 4 → Octets s os 0 s
unfolding octets_of
octets_start s os h = record { four = h; dots = four.four_start s; so_far = refl }

octets_no : (s : List ℕ) → false ≡ ipv4address s → None ≡ octets_read s
unfolding octets_read
octets_no s e = sym (rw (← e))

octets_yes : (s os : List ℕ) → true ≡ ipv4address s → os ≡ octets_of s → Some os ≡ octets_read s
unfolding octets_read
octets_yes s os e f = sym (rw (← e, f))

-- one octet more
more : (os : List ℕ) (i x : ℕ) (r t : List ℕ) → i < length os → take i os ++ x ∷ r ≡ t → take (i + 1) (set os i x) ++ r ≡ t
more os i x r t h e = rw (add-one i, take-suc-set os i x h) (joined (take i os) x r t e)

module _ {s os : List ℕ} {i : ℕ} {left : List ℕ} (inv : Octets s os i left) where
  module _ (n : ℕ) (few : i < 3) (en : n ≡ before 46 left) where
    pub octets_none : length left ≤ n → None ≡ octets_read s
    octets_none h = octets_no s (four.four_none s left n en i inv.dots few h)

    module _ (h : n < length left) (r : Option ℕ) (er : r ≡ octet_of (take n left)) where
      pub octets_bad : r ≡ None → None ≡ octets_read s
      octets_bad e = octets_no s (four.four_bad s left n en i inv.dots few h false (sym (octet_none (take n left) r er e)) refl)

      pub octets_next : (x : ℕ) → r ≡ Some x → Octets s (set os i x) (i + 1) (rest (n + 1) left)
      octets_next x e =
          let t = octet_some (take n left) r er x e in
          let j : suc n ≡ n + 1 = omega arith in
          let turn : octets_from 0 left ≡ x ∷ octets_from 0 (rest (n + 1) left)
          = octets_cut 0 left (omega (arith, en)) ∙ rw (← en, t.1, rest_is (n + 1) left, j) in
          record {
            four = length-set os i x ∙ inv.four;
            dots = four.four_next s left n en i inv.dots few h true (sym t.0) refl;
            so_far = more os i x _ _ (omega (arith, inv.four)) (ap (λ (l : List ℕ). take i os ++ l) (sym turn) ∙ inv.so_far);
          }

module _ {s os left : List ℕ} {i : ℕ} (inv : Octets s os i left) (k : i ≡ 3) (r : Option ℕ) (er : r ≡ octet_of left) where
  dots : Four s 3 left
  dots = subst (λ (n : ℕ). Four s n left) k inv.dots

  pub octets_last : r ≡ None → None ≡ octets_read s
  octets_last e = octets_no s (four.four_end s left false dots (sym (octet_none left r er e)))

  pub octets_end : (x : ℕ) → r ≡ Some x → Some (set os 3 x) ≡ octets_read s
  octets_end x e =
      let t = octet_some left r er x e in
      octets_yes s (set os 3 x) (four.four_end s left true dots (sym t.0))
      (sym (take_all 4 (set os 3 x) (omega (arith, length-set os 3 x, inv.four)))
      ∙ sym (append-nil (take 4 (set os 3 x)))
      ∙ more os 3 x [] _ (omega (arith, inv.four)) (rw (t.1, ← octet_alone left t.0, ← k) inv.so_far))

pub ruleset octet_laws = (octets_start, octets_none, octets_bad, octets_next, octets_last, octets_end)

-- what the octets of a text tell of it
pub is_four : (s : List ℕ) (r : Option (List ℕ)) → r ≡ octets_read s → (os : List ℕ) → r ≡ Some os → (ipv4address s ≡ true) × (os ≡ octets_of s)
unfolding octets_read
is_four s r er os e =
    by_bool (ipv4address s) (λ h. let k : r ≡ Some (octets_of s) = er ∙ rw h in (h, cc))
    (λ h. let k : r ≡ None = er ∙ rw h in clash (cc))

pub not_four : (s : List ℕ) (r : Option (List ℕ)) → r ≡ octets_read s → r ≡ None → ipv4address s ≡ false
unfolding octets_read
not_four s r er e =
    by_bool (ipv4address s) (λ h. let k : r ≡ Some (octets_of s) = er ∙ rw h in clash (cc)) (λ h. h)
