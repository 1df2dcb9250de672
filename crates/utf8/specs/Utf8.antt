-- UTF-8 by the grammar of RFC 3629, section 4.
use Rattle.std.specs.Prelude.{ℕ, cond, List, Result, ⊤, Ok, Err}
use Rattle.abnf.specs.Rule.{Rule, range, byte, ◌or◌, ◌then◌, many, longest}

-- UTF8-tail = %x80-BF
abbrev pub utf8_tail : Rule
utf8_tail = range 0x80 0xBF

-- UTF8-1 = %x00-7F
abbrev pub utf8_one : Rule
utf8_one = range 0x00 0x7F

-- UTF8-2 = %xC2-DF UTF8-tail
abbrev pub utf8_two : Rule
utf8_two = range 0xC2 0xDF then utf8_tail

-- UTF8-3 = %xE0 %xA0-BF UTF8-tail / %xE1-EC 2( UTF8-tail ) /
--          %xED %x80-9F UTF8-tail / %xEE-EF 2( UTF8-tail )
abbrev pub utf8_three : Rule
utf8_three =
    (byte 0xE0 then range 0xA0 0xBF then utf8_tail)
    or (range 0xE1 0xEC then utf8_tail then utf8_tail)
    or (byte 0xED then range 0x80 0x9F then utf8_tail)
    or (range 0xEE 0xEF then utf8_tail then utf8_tail)

-- UTF8-4 = %xF0 %x90-BF 2( UTF8-tail ) / %xF1-F3 3( UTF8-tail ) /
--          %xF4 %x80-8F 2( UTF8-tail )
abbrev pub utf8_four : Rule
utf8_four =
    (byte 0xF0 then range 0x90 0xBF then utf8_tail then utf8_tail)
    or (range 0xF1 0xF3 then utf8_tail then utf8_tail then utf8_tail)
    or (byte 0xF4 then range 0x80 0x8F then utf8_tail then utf8_tail)

-- UTF8-char = UTF8-1 / UTF8-2 / UTF8-3 / UTF8-4
unfoldable pub utf8_char : Rule
utf8_char = utf8_one or utf8_two or utf8_three or utf8_four

-- UTF8-octets = *( UTF8-char )
abbrev pub utf8_octets : Rule
utf8_octets = many utf8_char

-- all of s is well-formed, or the first ill-formed sequence starts where the longest front of s that is well-formed ends
unfoldable pub utf8_of : List ℕ → Result ⊤ ℕ
utf8_of s = cond (utf8_octets s) (Ok tt) (Err (longest utf8_octets s))
