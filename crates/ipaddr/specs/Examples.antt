-- What the definition of an address's number says of some texts. `proofs/Examples.antt` computes them.
use Rattle.std.specs.Prelude.{ℕ, List, [], ◌∷◌, Option, Some, None}
use Rattle.text.specs.Word.{word}
use Rattle.text.specs.Example.{Example, ◌gives◌}
use Rattle.ipaddr.specs.Number.{Address, four, six}

-- however a number is spelled; an IPv4 address and the IPv6 address that ends in it are apart
abbrev pub numbers : List (Example (List ℕ) (Option Address))
numbers =
    word "::1" gives Some (six (0 ∷ 0 ∷ 0 ∷ 0 ∷ 0 ∷ 0 ∷ 0 ∷ 1 ∷ []))
    ∷ word "0:0:0:0:0:0:0:1" gives Some (six (0 ∷ 0 ∷ 0 ∷ 0 ∷ 0 ∷ 0 ∷ 0 ∷ 1 ∷ []))
    ∷ word "::ffff:1.2.3.4" gives Some (six (0 ∷ 0 ∷ 0 ∷ 0 ∷ 0 ∷ 65535 ∷ 258 ∷ 772 ∷ []))
    ∷ word "::FFFF:102:304" gives Some (six (0 ∷ 0 ∷ 0 ∷ 0 ∷ 0 ∷ 65535 ∷ 258 ∷ 772 ∷ []))
    ∷ word "2001:db8::" gives Some (six (8193 ∷ 3512 ∷ 0 ∷ 0 ∷ 0 ∷ 0 ∷ 0 ∷ 0 ∷ []))
    ∷ word "2001:DB8:0:0::0" gives Some (six (8193 ∷ 3512 ∷ 0 ∷ 0 ∷ 0 ∷ 0 ∷ 0 ∷ 0 ∷ []))
    ∷ word "1.2.3.4" gives Some (four (1 ∷ 2 ∷ 3 ∷ 4 ∷ []))
    ∷ word "::1.2.3.4" gives Some (six (0 ∷ 0 ∷ 0 ∷ 0 ∷ 0 ∷ 0 ∷ 258 ∷ 772 ∷ []))
    ∷ word "1::8" gives Some (six (1 ∷ 0 ∷ 0 ∷ 0 ∷ 0 ∷ 0 ∷ 0 ∷ 8 ∷ []))
    ∷ word "::" gives Some (six (0 ∷ 0 ∷ 0 ∷ 0 ∷ 0 ∷ 0 ∷ 0 ∷ 0 ∷ []))
    ∷ word "1.2.3" gives None
    ∷ word "1::2::3" gives None
    ∷ word ":::" gives None
    ∷ word "01.2.3.4" gives None
    ∷ word "g::" gives None
    ∷ []
