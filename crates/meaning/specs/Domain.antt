-- How PTP domains are spelled: the one part of a value that is read and written in more than one way.
use Rattle.std.specs.Prelude.{ℕ, List, cond, eqb, length, Ok}
use Rattle.text.specs.Place.{place}
use Rattle.number.specs.Decimal.{decimal}
use Rattle.clock.specs.declared.PtpDomain.{PtpDomain}
use Rattle.clock.specs.declared.PtpDomain.TheVariants.{DomainName, DomainNumber}
use Rattle.meaning.specs.Answer.{Answer, ◌>>=◌, number_at}
use Rattle.meaning.specs.Meaning.{Domain, name, number}

-- a spelling: what the domain s reads as that starts at a place, and how a domain is written
pub record Spelling : Type 0 where
  pub read : ℕ → List ℕ → Answer PtpDomain
  pub text : Domain → List ℕ

-- bare: a domain of exactly 16 bytes is a name, digits or not; else a number from 0 to 127
unfoldable pub bare_read : ℕ → List ℕ → Answer PtpDomain
bare_read at s =
    cond (eqb (length s) 16) (Ok (DomainName (place at (length s))))
    (number_at 127 10 at s >>= λ n. Ok (DomainNumber n))

unfoldable pub bare_text : Domain → List ℕ
bare_text (name s) = s
bare_text (number n) = decimal n

abbrev pub bare : Spelling
bare = record { read = bare_read; text = bare_text }
