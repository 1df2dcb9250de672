-- The code's own shape again, as the code has it: with places, which over a value say what stands there. Only contracts of private functions cite it.
use Rattle.std.specs.Prelude.{ℕ, ◌≡◌, List, Option}
use Rattle.text.specs.Place.{place, bytes_at}
use Rattle.text.specs.declared.Place.{Place}
use Rattle.clock.specs.declared.NtpServerAddr.{NtpServerAddr}
use Rattle.clock.specs.declared.PtpVersion.{PtpVersion}
use Rattle.clock.specs.declared.PtpServer.{PtpServer}
use Rattle.clock.specs.declared.ReferenceClock.{ReferenceClock}
use Rattle.mediarecord.specs.declared.Direct.{Direct}
use Rattle.mediarecord.specs.declared.MediaClock.{MediaClock}
use Rattle.mediarecord.specs.declared.MediaClockSource.{MediaClockSource}
use Rattle.meaning.specs.Meaning.{version_means, server_means, ntp_means, value_means, ref_meaning, ptp, direct, offset_means, rate_means, media_means, media_meaning}
use Rattle.equal.specs.Private.Flat.{Flat, says, extension_says, server_says, clock_says, media_says, source_says}
use Rattle.equal.specs.declared.parts.Numbers.{Numbers}
use Rattle.equal.specs.declared.parts.Parts.{Parts}

abbrev pub numbers : ℕ → ℕ → ℕ → ℕ → ℕ → Numbers
numbers k f a b c = record { kind = k; form = f; first = a; second = b; third = c }

abbrev pub parts : Numbers → Place → Place → Place → Parts
parts x h n v = record { numbers = x; head = h; name = n; value = v }

-- no numbers, and no texts but the head
abbrev pub bare : ℕ → ℕ → Place → Parts
bare k f h = parts (numbers k f 0 0 0) h (place 0 0) (place 0 0)

abbrev pub with_numbers : Parts → ℕ → ℕ → ℕ → Parts
with_numbers p a b c = parts (numbers p.numbers.kind p.numbers.form a b c) p.head p.name p.value

abbrev pub over : List ℕ → Parts → Flat
over v p =
    let x = p.numbers in
    says x.kind x.form x.first x.second x.third (bytes_at p.head v) (bytes_at p.name v) (bytes_at p.value v)

-- over every value the parts say this
pub record Says (p : Parts) (f : List ℕ → Flat) : Type 0 where
  pub of : (v : List ℕ) → over v p ≡ f v

-- what each part of a record says over a value
abbrev pub extension_over : ℕ → ℕ → Place → Place → Option Place → List ℕ → Flat
extension_over k f h n x v = extension_says k f (bytes_at h v) (bytes_at n v) (value_means v x)

abbrev pub ntp_over : NtpServerAddr → List ℕ → Flat
ntp_over s v = clock_says (ntp_means v s)

abbrev pub server_over : ℕ → Place → PtpServer → List ℕ → Flat
server_over f n s v = server_says f (bytes_at n v) (server_means v s)

abbrev pub ptp_over : PtpVersion → PtpServer → List ℕ → Flat
ptp_over x s v = clock_says (ptp (version_means v x) (server_means v s))

abbrev pub clock_over : ReferenceClock → List ℕ → Flat
clock_over c v = clock_says (ref_meaning v c)

abbrev pub direct_over : ℕ → Place → Direct → List ℕ → Flat
direct_over f h d v = media_says f (bytes_at h v) (direct (offset_means d.offset) (rate_means d.rate))

abbrev pub media_over : ℕ → Place → MediaClock → List ℕ → Flat
media_over f h c v = media_says f (bytes_at h v) (media_means v c)

abbrev pub source_over : MediaClockSource → List ℕ → Flat
source_over m v = source_says (media_meaning v m)
