-- Demand 3 holds: what was written is the text of the meaning, which reads back. Assumes nothing.
use Rattle.std.specs.Prelude.{Ok, Err}
use Prim.Native.Nat.{ℕ, ◌≤◌}
use mathlib.Core.Path.{◌≡◌, sym, ap, ◌∙◌}
use mathlib.Core.List.{List}
use native.Mathlib.Omega.{arith}
use lib.ListN.{length}
use Rattle.text.proofs.Bools.{clash}
use Rattle.clock.specs.declared.Refusal.{Refusal}
use Rattle.clock.specs.declared.ReferenceClock.{ReferenceClock}
use Rattle.mediarecord.specs.declared.MediaClockSource.{MediaClockSource}
use Rattle.meaning.specs.Answer.{Answer, ◌>>=◌}
use Rattle.meaning.specs.Domain.{bare}
use Rattle.meaning.specs.ReferenceClock.{reference_clock_of, read_reference_clock}
use Rattle.meaning.specs.MediaClock.{source_of, media_clock_source_of, read_media_clock_source}
use Rattle.meaning.specs.Meaning.{ref_meaning, media_meaning}
use Rattle.meaning.specs.Text.{ref_meaning_text, reference_clock_text, media_clock_source_text}
use Rattle.meaning.specs.Inside.{reference_clock_inside, media_clock_source_inside}
use Rattle.meaning.specs.Written.{written_reference_clock, written_media_clock_source}
use Rattle.meaning.specs.Demand3.{RefGiven, RefWritten, RefReadBack, RefReadsBack, RefTexts}
use Rattle.meaning.specs.Demand3.{MediaGiven, MediaWritten, MediaReadBack, MediaReadsBack, MediaTexts}
use Rattle.meaning.proofs.Told.{was_accepted, was_made}
use Rattle.meaning.proofs.Spelling.{bare_lawful}
use Rattle.meaning.proofs.Reference.{read_back, ref_fits, ref_inside, ref_short, ref_back, ref_texts}
use Rattle.meaning.proofs.Media.{media_inside_lem, media_short, media_back_lem, media_same, media_texts}
use Rattle.meaning.proofs.Room.{wrote_length, wrote_text}

-- ts-refclk
pub ref_answer : (v : List ℕ) (c : ReferenceClock) → read_reference_clock v ≡ Ok c → reference_clock_of bare v ≡ Ok c
unfolding read_reference_clock
ref_answer v c h = go (reference_clock_of bare v) h
  where
    go : (x : Answer ReferenceClock) → x ≡ Ok c → x ≡ Ok c
    go (Ok d) h = cc
    go (Err r) h = clash (cc)

-- an answer by what it means
ref_refused : {A B : Type 0} (x : Answer A) (f : A → B) (r : Refusal) → (x >>= λ a. Ok (f a)) ≡ Err r → x ≡ Err r
ref_refused (Ok a) f r h = clash (cc)
ref_refused (Err s) f r h = cc

module _ (v : List ℕ) (c : ReferenceClock) (room : List ℕ) (g : RefGiven v c room) where
  ref_is_read : reference_clock_of bare v ≡ Ok c
  ref_is_read = ref_answer v c g.was_read

  ref_room : length (reference_clock_text v c) ≤ length room
  unfolding reference_clock_text
  ref_room = omega (arith, ref_short bare bare_lawful v c ref_is_read, ref_fits bare bare_lawful v c ref_is_read, g.enough)

  ref_text : written_reference_clock v c room ≡ reference_clock_text v c
  unfolding written_reference_clock
  ref_text =
      wrote_text v (reference_clock_inside v c) (reference_clock_text v c) room (ref_fits bare bare_lawful v c ref_is_read)
      (ref_inside bare bare_lawful v c ref_is_read) ref_room

  pub ref_written_lem : RefWritten v c room
  unfolding reference_clock_text
  ref_written_lem =
      record {
        inside = ref_inside bare bare_lawful v c ref_is_read;
        succeeds =
            rw ref_text
            (wrote_length v (reference_clock_inside v c) (reference_clock_text v c) room (ref_fits bare bare_lawful v c ref_is_read)
            (ref_inside bare bare_lawful v c ref_is_read) ref_room);
        longer = rw ref_text (ref_short bare bare_lawful v c ref_is_read);
      }

  ref_again : RefReadBack v c (written_reference_clock v c room)
  unfolding read_reference_clock reference_clock_text read_back
  ref_again =
      let t = reference_clock_text v c in
      let b = ref_back bare bare_lawful v c ref_is_read in
      record {
        same = λ o.
            let r = was_made (reference_clock_of bare t) (ref_meaning t) (ref_meaning v c) (rw o at b) in
            rw ref_text (r.value, (r.is, sym r.made));
        class = λ o. rw ref_text (ref_refused (reference_clock_of bare t) (ref_meaning t) _ (rw o at b));
      }

pub ref_read_back : RefReadsBack
ref_read_back = ref_again

pub ref_demand : RefTexts
unfolding reference_clock_text
ref_demand v w c d room other g k = (
  (λ e.
      ref_texts bare bare_lawful v w c d (ref_is_read v c room g) (ref_is_read w d other k)
      (sym (ref_text v c room g) ∙ e ∙ ref_text w d other k)),
  (λ e. ref_text v c room g ∙ ap (ref_meaning_text bare) e ∙ sym (ref_text w d other k)),
)

-- mediaclk
media_answer : (v : List ℕ) (m : MediaClockSource) → read_media_clock_source v ≡ Ok m → media_clock_source_of v ≡ Ok m
unfolding read_media_clock_source
media_answer v m h = go (media_clock_source_of v) h
  where
    go : (x : Answer MediaClockSource) → x ≡ Ok m → x ≡ Ok m
    go (Ok n) h = cc
    go (Err r) h = clash (cc)

module _ (v : List ℕ) (m : MediaClockSource) (room : List ℕ) (g : MediaGiven v m room) where
  media_is : media_clock_source_of v ≡ Ok m
  media_is = media_answer v m g.was_read

  media_fits : length v ≤ 1024
  unfolding media_clock_source_of
  media_fits = (was_accepted v (source_of v) m media_is).fits

  media_room : length (media_clock_source_text v m) ≤ length room
  media_room = omega (arith, media_short v m media_is, media_fits, g.enough)

  media_text_lem : written_media_clock_source v m room ≡ media_clock_source_text v m
  unfolding written_media_clock_source
  media_text_lem =
      wrote_text v (media_clock_source_inside v m) (media_clock_source_text v m) room media_fits (media_inside_lem v m media_is) media_room

  pub media_written : MediaWritten v m room
  media_written =
      record {
        inside = media_inside_lem v m media_is;
        succeeds =
            rw media_text_lem
            (wrote_length v (media_clock_source_inside v m) (media_clock_source_text v m) room media_fits (media_inside_lem v m media_is) media_room);
        longer = rw media_text_lem (media_short v m media_is);
      }

  media_again : MediaReadBack v m (written_media_clock_source v m room)
  unfolding read_media_clock_source
  media_again =
      let t = media_clock_source_text v m in
      let r = was_made (media_clock_source_of t) (media_meaning t) (media_meaning v m) (media_back_lem v m media_is) in
      record { same = rw media_text_lem (r.value, (r.is, sym r.made)) }

pub media_read_back : MediaReadsBack
media_read_back = media_again

pub media_demand : MediaTexts
media_demand v w m n room other g k = (
  (λ e. media_texts v w m n (media_is v m room g) (media_is w n other k) (sym (media_text_lem v m room g) ∙ e ∙ media_text_lem w n other k)),
  (λ e. media_text_lem v m room g ∙ media_same v w m n e ∙ sym (media_text_lem w n other k)),
)
