-- What the definitions of this crate say of some texts.
use Rattle.std.specs.Prelude.{refl, [], ◌∷◌, Ok, Err}
use Rattle.text.specs.Word.{word}
use Rattle.text.specs.Example.{◌gives◌, Each}
use Rattle.number.specs.declared.Reason.TheVariants.{Empty, Digit, Size}
use Rattle.number.specs.Decimal.{all_digits, value_from, digits_of, number_of, digits_in, decimal}
use Rattle.number.specs.Hex.{hex_digit, hex_capital, hex_small, hex_capitals, hex_bytes}

-- a domain, at most 127
domains : Each (number_of 127) (
    word "" gives Err Empty
    ∷ word "+" gives Err Empty
    ∷ word "++" gives Err Digit
    ∷ word "++1" gives Err Digit
    ∷ word "-0" gives Err Digit
    ∷ word "0" gives Ok 0
    ∷ word "+0" gives Ok 0
    ∷ word "127" gives Ok 127
    ∷ word "+0127" gives Ok 127
    ∷ word "00000000000000005" gives Ok 5
    ∷ word "128" gives Err Size
    ∷ word "99999999999999999999999a" gives Err Digit
    ∷ word " 1" gives Err Digit
    ∷ word "1/" gives Err Digit
    ∷ word "1:" gives Err Digit
    ∷ [])
unfolding number_of digits_of all_digits value_from
domains = refl

-- a port, and an offset or a rate, at their widths
ports : Each (number_of 65535) (word "65535" gives Ok 65535 ∷ word "65536" gives Err Size ∷ word "+080" gives Ok 80 ∷ [])
unfolding number_of digits_of all_digits value_from
ports = refl

offsets : Each (number_of 4294967295) (
    word "4294967295" gives Ok 4294967295
    ∷ word "4294967296" gives Err Size
    ∷ word "18446744073709551616" gives Err Size
    ∷ [])
unfolding number_of digits_of all_digits value_from
offsets = refl

-- "/", "0", "9", ":", "@", "A", "F", "G", "`", "a", "f" and "g"
hex : Each hex_digit (
    47 gives 16 ∷ 48 gives 0 ∷ 57 gives 9 ∷ 58 gives 16 ∷ 64 gives 16 ∷ 65 gives 10 ∷ 70 gives 15 ∷ 71 gives 16
    ∷ 96 gives 16 ∷ 97 gives 10 ∷ 102 gives 15 ∷ 103 gives 16 ∷ [])
unfolding hex_digit
hex = refl

written : Each decimal (
    0 gives word "0"
    ∷ 9 gives word "9"
    ∷ 10 gives word "10"
    ∷ 80 gives word "80"
    ∷ 4294967295 gives word "4294967295"
    ∷ 18446744073709551615 gives word "18446744073709551615"
    ∷ [])
unfolding decimal digits_in
written = refl

capitals : Each hex_capital (0 gives 48 ∷ 9 gives 57 ∷ 10 gives 65 ∷ 15 gives 70 ∷ [])
unfolding hex_capital
capitals = refl

numbers_of_base_16 : Each (hex_capitals 16) (0 gives word "0000000000000000" ∷ 4154453008472067025 gives word "39A794FFFE07CBD1" ∷ [])
unfolding hex_capitals hex_capital
numbers_of_base_16 = refl

texts_of_base_16 : Each hex_bytes (word "" gives word "" ∷ word "gps" gives word "677073" ∷ (0 ∷ 255 ∷ []) gives word "00ff" ∷ [])
unfolding hex_bytes hex_small
texts_of_base_16 = refl
