-- What the definition says of some bytes: each length's least and greatest, and what is refused beside them (overlong forms, surrogates, past
-- U+10FFFF, stray and missing tails).
use Rattle.std.specs.Prelude.{refl, [], ◌∷◌, Ok, Err}
use Rattle.text.specs.Example.{◌gives◌, Each}
use Rattle.abnf.specs.Rule.{nothing, range, ◌or◌, ◌then◌, ◌then_many◌, longest}
use Rattle.utf8.specs.Utf8.{utf8_char, utf8_of}

texts : Each utf8_of (
    [] gives (Ok tt)
    ∷ (0x00 ∷ []) gives (Ok tt)
    ∷ (0x41 ∷ []) gives (Ok tt)
    ∷ (0x7F ∷ []) gives (Ok tt)
    ∷ (0xC2 ∷ 0x80 ∷ []) gives (Ok tt)
    ∷ (0xC3 ∷ 0xA9 ∷ []) gives (Ok tt)
    ∷ (0xDF ∷ 0xBF ∷ []) gives (Ok tt)
    ∷ (0xE2 ∷ 0x82 ∷ 0xAC ∷ []) gives (Ok tt)
    ∷ (0xF0 ∷ 0x9F ∷ 0x98 ∷ 0x80 ∷ []) gives (Ok tt)
    ∷ (0x80 ∷ []) gives Err 0
    ∷ (0xC0 ∷ 0x80 ∷ []) gives Err 0
    ∷ (0xC1 ∷ 0xBF ∷ []) gives Err 0
    ∷ (0xC2 ∷ []) gives Err 0
    ∷ (0xE0 ∷ 0x9F ∷ 0xBF ∷ []) gives Err 0
    ∷ (0xE0 ∷ 0xA0 ∷ 0x80 ∷ []) gives (Ok tt)
    ∷ (0xED ∷ 0x9F ∷ 0xBF ∷ []) gives (Ok tt)
    ∷ (0xED ∷ 0xA0 ∷ 0x80 ∷ []) gives Err 0
    ∷ (0xEF ∷ 0xBF ∷ 0xBF ∷ []) gives (Ok tt)
    ∷ (0xF0 ∷ 0x8F ∷ 0xBF ∷ 0xBF ∷ []) gives Err 0
    ∷ (0xF0 ∷ 0x90 ∷ 0x80 ∷ 0x80 ∷ []) gives (Ok tt)
    ∷ (0xF4 ∷ 0x8F ∷ 0xBF ∷ 0xBF ∷ []) gives (Ok tt)
    ∷ (0xF4 ∷ 0x90 ∷ 0x80 ∷ 0x80 ∷ []) gives Err 0
    ∷ (0xF5 ∷ 0x80 ∷ 0x80 ∷ 0x80 ∷ []) gives Err 0
    ∷ (0x41 ∷ 0xE2 ∷ 0x82 ∷ []) gives Err 1
    ∷ (0x41 ∷ 0xC3 ∷ 0xA9 ∷ 0xFF ∷ 0x42 ∷ []) gives Err 3
    ∷ [])
unfolding utf8_of utf8_char nothing range ◌or◌ ◌then◌ ◌then_many◌ longest
texts = refl
