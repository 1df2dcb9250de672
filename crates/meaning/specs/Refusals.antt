-- A value for each number that reading refuses with, and the place that it gives: the rows of docs/REFUSALS.md, in their order. Values of either
-- attribute are those behind `a=ts-refclk:` and `a=mediaclk:`. `proofs/Refusals.antt` proves them.
use Rattle.std.specs.Prelude.{ℕ, List, [], ◌∷◌, ◌++◌, replicate, Result, Ok, Err, Option, Some, None}
use Rattle.text.specs.Word.{word}
use Rattle.text.specs.Example.{Example, ◌gives◌}
use Rattle.clock.specs.Refusal.{refusal}
use Rattle.clock.specs.declared.Refusal.{Refusal}
use Rattle.meaning.specs.ReferenceClock.{read_reference_clock}
use Rattle.meaning.specs.MediaClock.{read_media_clock_source}
use Rattle.meaning.specs.Rows.{Given, ts-refclk, mediaclk}
use Rattle.clock.specs.declared.ReferenceClock.{ReferenceClock}
use Rattle.mediarecord.specs.declared.MediaClockSource.{MediaClockSource}

-- the refusal of an answer: none where the value was accepted
abbrev pub ref_reason : Result ReferenceClock Refusal → Option Refusal
ref_reason (Ok c) = None
ref_reason (Err r) = Some r

abbrev pub source_reason : Result MediaClockSource Refusal → Option Refusal
source_reason (Ok m) = None
source_reason (Err r) = Some r

abbrev pub reason : Given → Option Refusal
reason (ts-refclk v) = ref_reason (read_reference_clock v)
reason (mediaclk v) = source_reason (read_media_clock_source v)

-- refused with the number k, at the n bytes from `at` on
abbrev no : ℕ → ℕ → ℕ → Option Refusal
no k at n = Some (refusal k at n)

-- the first value is "ntp=" and 1,021 times "x"
abbrev pub refusals : List (Example Given (Option Refusal))
refusals =
    ts-refclk (word "ntp=" ++ replicate 1021 120) gives no 1 1024 1
    ∷ ts-refclk (word "ntp=" ++ 0xFF ∷ []) gives no 2 4 1
    ∷ ts-refclk (word "ntp=") gives no 3 4 0
    ∷ ts-refclk (word "ntp=[::1]:http") gives no 4 4 10
    ∷ ts-refclk (word "ntp=:80") gives no 5 4 0
    ∷ ts-refclk (word "ntp=ntp.example.org:80a") gives no 6 20 3
    ∷ ts-refclk (word "ptp=IEEE1588-2008") gives no 7 4 0
    ∷ ts-refclk (word "ptp=IEEE1588-2008:") gives no 8 18 0
    ∷ ts-refclk (word "ptp=IEEE1588-2008:00-1D-C1-FF-FE-12-00:0") gives no 9 18 20
    ∷ ts-refclk (word "ptp=IEEE1588-2008:00-1D-C1-FF-FE-12-00-A4:128") gives no 10 42 3
    ∷ ts-refclk (word "=x") gives no 11 0 0
    ∷ mediaclk (word "id=camera-4") gives no 12 11 0
    ∷ mediaclk (word "id=src: sender") gives no 13 7 0
    ∷ mediaclk (word "direct=-1") gives no 14 7 2
    ∷ mediaclk (word "direct=0 offset=7") gives no 15 9 8
    ∷ mediaclk (word "direct rate=48000") gives no 16 12 5
    ∷ mediaclk (word "direct rate=1k/1001") gives no 17 12 2
    ∷ mediaclk (word "direct rate=1000/0") gives no 18 17 1
    ∷ mediaclk (word "IEEE1722=38-D6-6D-8E-D2-78-13") gives no 19 9 20
    ∷ mediaclk (word "IEEE1722=38D-6-6D-8E-D2-78-13-2F") gives no 20 9 3
    ∷ mediaclk (word "IEEE1722=38-D6-6D-8E-D2-78-13-2G") gives no 21 30 2
    ∷ mediaclk (word "=x") gives no 22 0 0
    ∷ []
