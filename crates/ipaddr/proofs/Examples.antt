-- Texts that are addresses, and texts that are none. The grammar tries every cut of a text, which is slow to compute for many groups:
-- `quick` cuts at the first separator alone, and is the same. Assumes nothing.
use Rattle.std.specs.Prelude.{Option, Some, None}
use Prim.Native.Nat.{ℕ, zero, suc, ◌-◌}
use mathlib.Core.Path.{◌≡◌, refl, sym, ap, ◌∙◌, fun_ext}
use mathlib.Core.Bool.{Bool, true, false, cond, ◌&&◌, ◌||◌}
use mathlib.Core.List.{List, [], ◌∷◌, map}
use lib.Dec.{eqb, ltb}
use lib.ListN.{length, take, drop}
use Rattle.text.specs.Find.{before_pair}
use Rattle.text.specs.Word.{word}
use Rattle.text.specs.Example.{Example, ◌gives◌, Each}
use Rattle.number.specs.Hex.{hex_digit}
use Rattle.abnf.specs.Rule.{Rule, nothing, range, ◌or◌, ◌then◌, times, upto}
use Rattle.abnf.proofs.Rules.{cut, cut_then}
use Rattle.ipaddr.specs.Address.{hexdig, dec_octet, ipv4address, h16, ipv6address, ip_address}
use Rattle.ipaddr.specs.Number as number
use Rattle.ipaddr.specs.Number.{octets_from, octets_of, paired, groups_from, side_groups, groups_of, ip_address_of}
use Rattle.ipaddr.specs.Examples.{numbers}
use Rattle.ipaddr.specs.Private.Groups.{groups}
use Rattle.ipaddr.proofs.Four.{octets, octet_lacks, four_octets}
use Rattle.ipaddr.proofs.Groups.{groups_cut}
use Rattle.ipaddr.proofs.Six.{any, six_forms}

quick_octets : ℕ → Rule
quick_octets zero = dec_octet
quick_octets (suc m) = cut 46 dec_octet (quick_octets m)

quick_groups : Bool → ℕ → Rule
quick_groups four zero = nothing
quick_groups four (suc zero) = h16
quick_groups four (suc (suc n)) = λ s. cut 58 h16 (quick_groups four (suc n)) s || (eqb n 0 && (four && quick_octets 3 s))

quick_form : ℕ → ℕ → Rule
quick_form a b s =
    ltb (before_pair 58 58 s) (length s)
    && (any (suc a) (λ m. quick_groups false m (take (before_pair 58 58 s) s)) && quick_groups true b (drop (suc (suc (before_pair 58 58 s))) s))

quick_six : Rule
quick_six s = quick_groups true 8 s || any 8 (λ a. quick_form a (7 - a) s)

quick : Rule
quick s = quick_octets 3 s || quick_six s

octets_quick : (m : ℕ) → octets m ≡ quick_octets m
unfolding octets quick_octets
octets_quick zero = refl
octets_quick (suc m) = rw (← octets_quick m) (fun_ext (cut_then 46 dec_octet (octets m) octet_lacks.free))

four_quick : ipv4address ≡ quick_octets 3
four_quick = fun_ext (λ s. sym (four_octets s)) ∙ octets_quick 3

groups_quick : (four : Bool) (n : ℕ) → groups four n ≡ quick_groups four n
unfolding quick_groups
groups_quick four zero = unfold groups in refl
groups_quick four (suc zero) = unfold groups in refl
groups_quick four (suc (suc n)) = fun_ext (go (groups_quick four (suc n)))
  where
    go : groups four (suc n) ≡ quick_groups four (suc n) → (s : List ℕ) → groups four (suc (suc n)) s ≡ quick_groups four (suc (suc n)) s
    go e s = groups_cut four n s ∙ rw (e, four_quick)

six_quick : ipv6address ≡ quick_six
six_quick = fun_ext go
  where
    go : (s : List ℕ) → ipv6address s ≡ quick_six s
    go s = six_forms s ∙ unfold quick_six quick_form in rw (fun_ext (λ b. fun_ext (groups_quick b)))

quick_is : ip_address ≡ quick
unfolding ip_address ◌or◌ quick
quick_is = rw (four_quick, six_quick)

abbrev rows : List (Example (List ℕ) Bool)
rows =
    word "127.0.0.1" gives true
    ∷ word "0.0.0.0" gives true
    ∷ word "255.255.255.255" gives true
    ∷ word "256.1.1.1" gives false
    ∷ word "01.2.3.4" gives false
    ∷ word "1.2.3" gives false
    ∷ word "1.2.3.4.5" gives false
    ∷ word "" gives false
    ∷ word "::" gives true
    ∷ word "::1" gives true
    ∷ word "1::" gives true
    ∷ word "1:2:3:4:5:6:7:8" gives true
    ∷ word "1:2:3:4:5:6:7::" gives true
    ∷ word "1:2:3:4:5:6:7:8::" gives false
    ∷ word "1:2:3:4::5:6:7:8" gives false
    ∷ word "1:2:3:4:5:6:7:8:9" gives false
    ∷ word "::ffff:1.2.3.4" gives true
    ∷ word "1:2:3:4:5:6:1.2.3.4" gives true
    ∷ word "1:2:3:4:5:6:7:1.2.3.4" gives false
    ∷ word "1:2:3:4:5:6::7" gives true
    ∷ word "1::2::3" gives false
    ∷ word "1.2.3.4::" gives false
    ∷ word "FFFF:ffff:ffff:ffff:ffff:ffff:255.255.255.255" gives true
    ∷ word "12345::" gives false
    ∷ word "::g" gives false
    ∷ word ":::" gives false
    ∷ word "::1%eth0" gives false
    ∷ word "[::1]" gives false
    ∷ word "::1:8080" gives true
    ∷ word "::1:65535" gives false
    ∷ word "a:b" gives false
    ∷ []

texts : Each ip_address rows
unfolding quick quick_six quick_octets quick_groups quick_form any cut before_pair hexdig dec_octet h16 nothing range ◌or◌ ◌then◌ times upto
texts = ap (λ (p : Rule). map (λ (r : Example (List ℕ) Bool). p r.given) rows) quick_is

quick_number : List ℕ → Option number.Address
quick_number s = cond (quick_octets 3 s) (Some (number.four (octets_of s))) (cond (quick_six s) (Some (number.six (groups_of s))) None)

number_quick : ip_address_of ≡ quick_number
number_quick = fun_ext go
  where
    go : (s : List ℕ) → ip_address_of s ≡ quick_number s
    go s = unfold ip_address_of quick_number in rw (← four_quick, ← six_quick)

pub numbers_hold : Each ip_address_of numbers
unfolding quick_number quick_six quick_octets quick_groups quick_form any cut before_pair hexdig dec_octet h16 ipv4address nothing range ◌or◌ ◌then◌ times upto
    hex_digit octets_of octets_from paired groups_from side_groups groups_of
numbers_hold = ap (λ (f : List ℕ → Option number.Address). map (λ (r : Example (List ℕ) (Option number.Address)). f r.given) numbers) number_quick
