-- What the definition of an EUI-64 says of some texts.
use Rattle.std.specs.Prelude.{refl, [], ◌∷◌, Ok}
use Rattle.text.specs.Word.{word}
use Rattle.text.specs.Example.{◌gives◌, Each}
use Rattle.number.specs.Hex.{hex_digit, hex_capital}
use Rattle.eui64.specs.declared.BrokenRule.TheVariants.{Length, SegmentLength, SegmentDigits}
use Rattle.eui64.specs.Eui64.{refused, cut_at_each, high_digit, segment_of, segments_of, eui64_of, segments_text, eui64_text}

texts : Each eui64_of (
    word "00-00-00-00-00-00-00-00" gives Ok 0
    ∷ word "FF-ff-FF-ff-FF-ff-FF-ff" gives Ok 0xFFFFFFFFFFFFFFFF
    ∷ word "39-A7-94-FF-FE-07-CB-D0" gives Ok 0x39A794FFFE07CBD0
    ∷ word "+1-00-00-00-00-00-00-0a" gives Ok 0x010000000000000A
    ∷ word "" gives refused Length 0 0
    ∷ word "00-00-00-00-00-00-00-0" gives refused Length 0 22
    ∷ word "00-00-00-00-00-00-00-000" gives refused Length 0 24
    ∷ word "0-000-00-00-00-00-00-00" gives refused SegmentLength 0 1
    ∷ word "00-000-0-00-00-00-00-00" gives refused SegmentLength 3 3
    ∷ word "00-00-00-00-00-00-00000" gives refused SegmentLength 18 5
    ∷ word "00-00-00-00-00-00-00-0-" gives refused SegmentLength 21 1
    ∷ word "00:00:00:00:00:00:00:00" gives refused SegmentLength 0 23
    ∷ word "0g-00-00-00-00-00-00-00" gives refused SegmentDigits 0 2
    ∷ word "00-00-00-00-00-00-00-1+" gives refused SegmentDigits 21 2
    ∷ word "00-++-00-00-00-00-00-00" gives refused SegmentDigits 3 2
    ∷ word "0g-0-000-00-00-00-00-00" gives refused SegmentDigits 0 2
    ∷ [])
unfolding eui64_of segments_of segment_of high_digit hex_digit cut_at_each
texts = refl

written : Each eui64_text (
    0 gives word "00-00-00-00-00-00-00-00"
    ∷ 0x39A794FFFE07CBD0 gives word "39-A7-94-FF-FE-07-CB-D0"
    ∷ 0xFFFFFFFFFFFFFFFF gives word "FF-FF-FF-FF-FF-FF-FF-FF"
    ∷ [])
unfolding eui64_text segments_text hex_capital
written = refl
