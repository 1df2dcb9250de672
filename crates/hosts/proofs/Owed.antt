-- Hosts sort into servers, and an address names no server that another name names. Assumes nothing.
use Rattle.std.specs.Prelude.{Option, Some, None}
use Prim.Native.Nat.{ℕ}
use mathlib.Core.Path.{◌≡◌, refl, sym, ap, ◌∙◌}
use mathlib.Core.Bool.{true, false}
use mathlib.Core.List.{List}
use Rattle.text.specs.Word.{same}
use Rattle.text.proofs.Bools.{by_bool, clash}
use Rattle.text.proofs.Cuts.{same_eq, same_refl}
use Rattle.ipaddr.specs.Address.{ip_address}
use Rattle.ipaddr.specs.Number.{Address, four, six, ip_address_of}
use Rattle.ipaddr.proofs.Number.{none_is_no_address}
use Rattle.hosts.specs.Server.{folded, same_address, alike_by, one_server}
use Rattle.hosts.specs.Owed.{ServersSorted, AddressesApart, Named, address, name, ServerShared}
use Rattle.hosts.proofs.Case.{caseless_address}

is_no_address : (s : List ℕ) → ip_address_of s ≡ None → ip_address s ≡ false
is_no_address s e = (none_is_no_address s).0 e

is_address : (s : List ℕ) (a : Address) → ip_address_of s ≡ Some a → ip_address s ≡ true
is_address s a e = by_bool (ip_address s) (λ f. f) (λ f. clash (cc (e, (none_is_no_address s).1 f)))

-- texts that are equal but for the case of their letters are both addresses or neither
folded_address : (s t : List ℕ) → folded s ≡ folded t → ip_address s ≡ ip_address t
folded_address s t e = caseless_address.of s ∙ ap ip_address e ∙ sym (caseless_address.of t)

one_address : (a b : Address) → same_address a b ≡ true → a ≡ b
one_address (four os) (four ps) e = ap four (same_eq os ps e)
one_address (four os) (six gs) e = clash (cc e)
one_address (six gs) (four os) e = clash (cc e)
one_address (six gs) (six hs) e = ap six (same_eq gs hs e)

address_self : (a : Address) → same_address a a ≡ true
address_self (four os) = same_refl os
address_self (six gs) = same_refl gs

module _ (s t : List ℕ) where
  named : one_server s t ≡ true → Named s t
  unfolding one_server
  named e = go (ip_address_of s) (ip_address_of t) refl refl e
    where
      go : (x y : Option Address) → ip_address_of s ≡ x → ip_address_of t ≡ y → alike_by x y (same (folded s) (folded t)) ≡ true → Named s t
      go (Some a) (Some b) p q f = address a p (q ∙ ap Some (sym (one_address a b f)))
      go (Some a) None p q f =
          let k = folded_address s t (same_eq (folded s) (folded t) f) in
          clash (cc (k, is_address s a p, is_no_address t q))
      go None (Some b) p q f =
          let k = folded_address s t (same_eq (folded s) (folded t) f) in
          clash (cc (k, is_no_address s p, is_address t b q))
      go None None p q f = name p q (same_eq (folded s) (folded t) f)

  is_named : Named s t → one_server s t ≡ true
  unfolding one_server
  is_named (address a p q) = rw (p, q) (address_self a)
  is_named (name p q e) = rw (p, e) (same_refl (folded t))

pub server_shared : ServerShared
server_shared s t = (named s t, is_named s t)

self_named : (s : List ℕ) → Named s s
self_named s = go (ip_address_of s) refl
  where
    go : (x : Option Address) → ip_address_of s ≡ x → Named s s
    go (Some a) e = address a e e
    go None e = name e e refl

back_named : (s t : List ℕ) → Named s t → Named t s
back_named s t (address a p q) = address a q p
back_named s t (name p q e) = name q p (sym e)

on_named : (s t u : List ℕ) → Named s t → Named t u → Named s u
on_named s t u (address a p q) (address b f g) = address a p (g ∙ sym f ∙ q)
on_named s t u (address a p q) (name f g e) = clash (cc (q, f))
on_named s t u (name p q e) (address b f g) = clash (cc (q, f))
on_named s t u (name p q e) (name f g h) = name p g (e ∙ h)

pub servers_sorted : ServersSorted
servers_sorted =
    record {
      to_self = λ s. is_named s s (self_named s);
      back = λ s t e. is_named t s (back_named s t (named s t e));
      on = λ s t u e f. is_named s u (on_named s t u (named s t e) (named t u f));
    }

pub addresses_apart : AddressesApart
addresses_apart s t e f = by_bool (one_server s t) (λ y. go (named s t y)) (λ y. y)
  where
    go : Named s t → one_server s t ≡ false
    go (address a p q) = clash (cc (f, is_address t a q))
    go (name p q g) = clash (cc (e, is_no_address s p))
