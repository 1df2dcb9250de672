-- What is told of a value that was accepted, and a bound on what is printed for a line. Assumes nothing.
use Rattle.std.specs.Prelude.{Result, Ok, Err}
use Prim.Native.Nat.{ℕ, zero, suc, ◌+◌, ◌*◌, ◌/◌, ◌≤◌}
use mathlib.Core.Path.{◌≡◌, refl, sym}
use mathlib.Core.List.{List}
use mathlib.Core.Bool.{Bool, true, not}
use native.Mathlib.Omega.{arith}
use lib.Dec.{ltb}
use lib.ListN.{length, drop, replicate, length-append, length-replicate, length-drop}
use borrow.Author.Tests.{ltb-false, not-false}
use Rattle.text.specs.Word.{word, starts}
use Rattle.text.proofs.Bools.{by_bool, clash}
use Rattle.text.proofs.Cuts.{starts_long}
use Rattle.number.specs.Decimal.{digits_in, decimal}
use Rattle.clock.specs.declared.Refusal.{Refusal}
use Rattle.clock.specs.declared.ReferenceClock.{ReferenceClock}
use Rattle.mediarecord.specs.declared.MediaClockSource.{MediaClockSource}
use Rattle.meaning.specs.ReferenceClock.{read_reference_clock}
use Rattle.meaning.specs.MediaClock.{read_media_clock_source}
use Rattle.meaning.specs.Text.{reference_clock_text, media_clock_source_text}
use Rattle.meaning.specs.Inside.{reference_clock_inside, media_clock_source_inside}
use Rattle.meaning.specs.Written.{wrote_of}
use Rattle.meaning.proofs.Demand3.{ref_written_lem, media_written}
use Rattle.report.specs.Reply.{no_reply, reference_clock_reply, media_clock_source_reply, ts_refclk_reply, mediaclk_reply, reply_to}

-- The text t of a record that was read from the value v can be written: the value is short, the record's places lie inside it, and the text is
-- at most two bytes longer.
pub record Writable (v : List ℕ) (inside : Bool) (t : List ℕ) : Type 0 where
  pub short : length v ≤ 1024
  pub within : inside ≡ true
  pub longer : length t ≤ length v + 2

-- writing that succeeds tells as much
succeeded : (v : List ℕ) (inside : Bool) (t : List ℕ) (n m : ℕ) → wrote_of v inside t n ≡ Ok m → m ≤ length v + 2 → Writable v inside t
unfolding wrote_of
succeeded v inside t n m h l =
    by_bool (ltb 1024 (length v)) (λ e. clash (cc (simp e at h)))
    (λ e. by_bool (not inside) (λ f. clash (cc (simp (e, f) at h)))
    (λ f. by_bool (ltb n (length t)) (λ g. clash (cc (simp (e, f, g) at h)))
    (λ g.
    let k : length t ≡ m = cc (simp (e, f, g) at h) in
    record { short = ltb-false 1024 (length v) e; within = not-false inside f; longer = omega arith })))

-- a room that is long enough for any of them
unfoldable ample : List ℕ
ample = replicate 1026 0

is_ample : 1026 ≤ length ample
unfolding ample
is_ample = rw (length-replicate {A = ℕ} 1026 0) (omega arith)

pub ref_writable : (v : List ℕ) (c : ReferenceClock) → Ok c ≡ read_reference_clock v
    → Writable v (reference_clock_inside v c) (reference_clock_text v c)
ref_writable v c e =
    let w = ref_written_lem v c ample (record { was_read = sym e; enough = is_ample }) in
    succeeded v (reference_clock_inside v c) (reference_clock_text v c) (length ample) _ w.succeeds w.longer

pub media_writable : (v : List ℕ) (m : MediaClockSource) → Ok m ≡ read_media_clock_source v
    → Writable v (media_clock_source_inside v m) (media_clock_source_text v m)
media_writable v m e =
    let w = media_written v m ample (record { was_read = sym e; enough = is_ample }) in
    succeeded v (media_clock_source_inside v m) (media_clock_source_text v m) (length ample) _ w.succeeds (omega (arith, w.longer))

-- a number has at most twenty digits, whatever it is
digits_most : (k n : ℕ) → length (digits_in k n) ≤ k
unfolding digits_in
digits_most zero n = omega arith
digits_most (suc k) n =
    by_bool (ltb n 10) (λ e. simp e (omega arith)) (λ e. simp (e, length-append) (omega (arith, digits_most k (n / 10))))

pub decimal_most : (n : ℕ) → length (decimal n) ≤ 20
unfolding decimal
decimal_most n = digits_most 20 n

no_bound : (r : Refusal) → length (no_reply r).says ≤ 66
unfolding no_reply
no_bound r =
    simp length-append (omega (arith, decimal_most r.number, decimal_most r.place.start, decimal_most r.place.len))

ref_bound : (v : List ℕ) → length (ts_refclk_reply v).says ≤ 66 + length v
unfolding ts_refclk_reply
ref_bound v = go (read_reference_clock v) refl
  where
    go : (x : Result ReferenceClock Refusal) → x ≡ read_reference_clock v → length (reference_clock_reply v x).says ≤ 66 + length v
    go (Ok c) e = simp length-append (omega (arith, (ref_writable v c e).longer))
    go (Err r) e = omega (arith, no_bound r)

media_bound : (v : List ℕ) → length (mediaclk_reply v).says ≤ 66 + length v
unfolding mediaclk_reply
media_bound v = go (read_media_clock_source v) refl
  where
    go : (x : Result MediaClockSource Refusal) → x ≡ read_media_clock_source v → length (media_clock_source_reply v x).says ≤ 66 + length v
    go (Ok m) e = simp length-append (omega (arith, (media_writable v m e).longer))
    go (Err r) e = omega (arith, no_bound r)

-- what is printed for a line is at most six times as long, where its end counts as one byte
pub reply_bound : (l : List ℕ) → length (reply_to l).says ≤ 6 * (length l + 1)
unfolding reply_to
reply_bound l =
    by_bool (ltb 4096 (length l)) (λ e. simp e (omega arith))
    (λ e. by_bool (starts (word "a=ts-refclk:") l)
    (λ f.
    let n : 12 ≤ length l = starts_long (word "a=ts-refclk:") l f in
    simp (e, f) (omega (arith, ref_bound (drop 12 l), length-drop 12 l)))
    (λ f. by_bool (starts (word "a=mediaclk:") l)
    (λ g.
    let n : 11 ≤ length l = starts_long (word "a=mediaclk:") l g in
    simp (e, f, g) (omega (arith, media_bound (drop 11 l), length-drop 11 l)))
    (λ g. simp (e, f, g) (omega arith))))
