-- One law for each way out of the crate's own functions. Assumes nothing.
use Rattle.std.specs.Prelude.{Result, ⊤, Ok, Err}
use Prim.Native.Nat.{ℕ, ◌≤◌}
use mathlib.Core.Path.{◌≡◌, sym, ap, ◌∙◌}
use mathlib.Core.List.{List}
use mathlib.Core.Bool.{Bool, true, false}
use lib.ListN.{length, drop}
use Rattle.text.specs.Word.{word, same, starts}
use Rattle.text.proofs.Left.{rest, rest_is}
use Rattle.text.proofs.Cuts.{starts_long}
use Rattle.clock.specs.Records.{ntp, clock_source_ext}
use Rattle.clock.specs.declared.Refusal.{Refusal}
use Rattle.clock.specs.declared.NtpServerAddr.{NtpServerAddr}
use Rattle.clock.specs.declared.Ptp.{Ptp as PtpSource}
use Rattle.clock.specs.declared.ClockSourceExt.{ClockSourceExt}
use Rattle.clock.specs.declared.PrivateSource.TheVariants.{Standard, Traceable}
use Rattle.clock.specs.declared.ReferenceClock.TheVariants.{Ntp, Ptp, Gps, Gal, Glonass, Local, Private, Ext}
use Rattle.meaning.specs.Answer.{Answer, ◌>>=◌, extension_of, guarded}
use Rattle.meaning.specs.Domain.{bare}
use Rattle.meaning.specs.ReferenceClock.{ntp_of, ptp_of, clock_of, reference_clock_of, read_reference_clock, extension_clock_of}
use Rattle.meaning.proofs.Told.{made_twice}
use Rattle.guard.proofs.Laws.{guarded_behind}
use Rattle.extension.specs.Parts.{extension_of_parts}
use Rattle.extension.specs.declared.Extension.{Extension}
use Rattle.extension.proofs.Laws.{extension_parts}
use Rattle.clock.specs.declared.ReferenceClock.{ReferenceClock}

-- `read_extension`
pub clock_extension : (s : List ℕ) → extension_clock_of s
    ≡ (extension_of extension_of_parts 11 0 s >>= λ e. Ok (Ext (clock_source_ext e.name e.value)))
clock_extension s =
    ap (λ (x : Answer ClockSourceExt). x >>= λ e. Ok (Ext e)) (extension_parts clock_source_ext 11 0 s)
    ∙ made_twice (extension_of extension_of_parts 11 0 s) (λ (e : Extension). clock_source_ext e.name e.value) Ext

-- `read_word`
module _ (s : List ℕ) (p1 : starts (word "ntp=") s ≡ false) (p2 : starts (word "ptp=") s ≡ false) (t1 : Bool) (et1 : t1 ≡ same s (word "gps")) where
  pub word_gps : t1 ≡ true → Ok Gps ≡ clock_of bare s
  unfolding clock_of
  word_gps e1 = simp (p1, p2, ← et1, e1)

  module _ (e1 : t1 ≡ false) (t2 : Bool) (et2 : t2 ≡ same s (word "gal")) where
    pub word_gal : t2 ≡ true → Ok Gal ≡ clock_of bare s
    unfolding clock_of
    word_gal e2 = simp (p1, p2, ← et1, e1, ← et2, e2)

    module _ (e2 : t2 ≡ false) (t3 : Bool) (et3 : t3 ≡ same s (word "glonass")) where
      pub word_glonass : t3 ≡ true → Ok Glonass ≡ clock_of bare s
      unfolding clock_of
      word_glonass e3 = simp (p1, p2, ← et1, e1, ← et2, e2, ← et3, e3)

      module _ (e3 : t3 ≡ false) (t4 : Bool) (et4 : t4 ≡ same s (word "local")) where
        pub word_local : t4 ≡ true → Ok Local ≡ clock_of bare s
        unfolding clock_of
        word_local e4 = simp (p1, p2, ← et1, e1, ← et2, e2, ← et3, e3, ← et4, e4)

        module _ (e4 : t4 ≡ false) (t5 : Bool) (et5 : t5 ≡ same s (word "private")) where
          pub word_private : t5 ≡ true → Ok (Private Standard) ≡ clock_of bare s
          unfolding clock_of
          word_private e5 = simp (p1, p2, ← et1, e1, ← et2, e2, ← et3, e3, ← et4, e4, ← et5, e5)

          module _ (e5 : t5 ≡ false) (t6 : Bool) (et6 : t6 ≡ same s (word "private:traceable")) where
            pub word_traceable : t6 ≡ true → Ok (Private Traceable) ≡ clock_of bare s
            unfolding clock_of
            word_traceable e6 = simp (p1, p2, ← et1, e1, ← et2, e2, ← et3, e3, ← et4, e4, ← et5, e5, ← et6, e6)

            pub word_none : t6 ≡ false → (r : Result ReferenceClock Refusal) → r ≡ extension_clock_of s
                → r ≡ clock_of bare s
            unfolding clock_of
            word_none e6 r er = simp (p1, p2, ← et1, e1, ← et2, e2, ← et3, e3, ← et4, e4, ← et5, e5, ← et6, e6) er

-- `read_clock`
module _ (s : List ℕ) where
  -- a value that begins with a word of four bytes has them
  pub ntp_long : starts (word "ntp=") s ≡ true → 4 ≤ length s
  ntp_long e = starts_long (word "ntp=") s e

  pub ptp_long : starts (word "ptp=") s ≡ true → 4 ≤ length s
  ptp_long e = starts_long (word "ptp=") s e

  pub clock_ntp : starts (word "ntp=") s ≡ true → clock_of bare s ≡ (ntp_of 4 (rest 4 s) >>= λ w. Ok (Ntp (ntp w)))
  unfolding clock_of
  clock_ntp e = simp (e, rest_is 4 s)

  pub clock_ptp : starts (word "ntp=") s ≡ false → starts (word "ptp=") s ≡ true
      → clock_of bare s ≡ (ptp_of bare 4 (rest 4 s) >>= λ p. Ok (Ptp p))
  unfolding clock_of
  clock_ptp e f = simp (e, f, rest_is 4 s)

-- `read_reference_clock`
pub value_read : (s : List ℕ) → read_reference_clock s ≡ (guarded {A = ⊤} s (Ok tt) >>= λ u. clock_of bare s)
unfolding read_reference_clock reference_clock_of
value_read s = guarded_behind s (clock_of bare s)

pub ruleset laws = (
  clock_extension,
  word_gps,
  word_gal,
  word_glonass,
  word_local,
  word_private,
  word_traceable,
  word_none,
  ntp_long,
  ptp_long,
  clock_ntp,
  clock_ptp,
  value_read,
)
