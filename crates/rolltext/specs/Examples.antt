-- What the definitions say of some counts.
use Rattle.std.specs.Prelude.{ℕ, refl, [], ◌∷◌}
use Rattle.text.specs.Word.{word}
use Rattle.text.specs.Example.{◌gives◌, Each}
use Rattle.number.specs.Decimal.{decimal, digits_in}
use Rattle.rolltext.specs.Printing.{counted_text, domain_text, totals_text, warning_text}

counted : Each (λ (n : ℕ). counted_text n (word "gps")) (1 gives word "1 gps\n" ∷ 4294967295 gives word "4294967295 gps\n" ∷ [])
unfolding counted_text decimal digits_in
counted = refl

domains : Each (λ (d : ℕ). domain_text d 12) (0 gives word "domain 0 12\n" ∷ 127 gives word "domain 127 12\n" ∷ [])
unfolding domain_text decimal digits_in
domains = refl

totals : Each (λ (u : ℕ). totals_text 319 302 255 256 1 u) (
    45 gives word "lines 319 streams 302 clocks 255 counted 256 refused 1 uncounted 45\n" ∷ [])
unfolding totals_text decimal digits_in
totals = refl

warnings : Each warning_text (0 gives [] ∷ 45 gives word "streams not counted: 45, as there are more than 255 clocks\n" ∷ [])
unfolding warning_text decimal digits_in
warnings = refl
