-- Demand 1, of refusals: each has a number from 1 to 22 and a place inside the value. One walk of each reader. Assumes nothing.
use Rattle.std.specs.Prelude.{Option, Result, ⊤, Ok, Err}
use Prim.Native.Nat.{ℕ, ◌+◌, ◌≤◌, ◌<◌}
use mathlib.Core.Path.{◌≡◌, refl}
use mathlib.Core.List.{List}
use mathlib.Core.Bool.{Bool, true, false, cond, ◌&&◌}
use native.Mathlib.Omega.{arith}
use lib.Dec.{leb, ltb, eqb}
use lib.ListN.{length, take, drop, length-drop}
use borrow.Author.Tests.{ltb-true, leb-true, eqb-false}
use Rattle.text.specs.Find.{before, before_pair, through_last}
use Rattle.text.specs.Word.{word, same, starts, ends_in}
use Rattle.text.specs.declared.Place.{Place}
use Rattle.text.proofs.Bools.{clash, and_left, and_right}
use Rattle.text.proofs.Cuts.{before_le, before_length, last_le}
use Rattle.number.specs.Decimal.{number_of}
use Rattle.eui64.specs.Eui64.{eui64_of}
use Rattle.eui64.specs.declared.BrokenRule.{BrokenRule}
use Rattle.eui64.specs.declared.BrokenRule.TheVariants.{Length, SegmentLength, SegmentDigits}
use Rattle.eui64.proofs.Written.{eui_fault}
use Rattle.utf8.specs.Utf8.{utf8_of}
use Rattle.utf8.proofs.Text.{utf8_ill}
use Rattle.ipaddr.specs.Address.{ip_address}
use Rattle.clock.specs.Refusal.{refusal}
use Rattle.clock.specs.Records.{clock_source_ext}
use Rattle.mediarecord.specs.Records.{media_clock_ext}
use Rattle.clock.specs.declared.Refusal.{Refusal}
use Rattle.clock.specs.declared.ReferenceClock.{ReferenceClock}
use Rattle.mediarecord.specs.declared.MediaClockSource.{MediaClockSource}
use Rattle.meaning.specs.Answer.{Answer, refuse, ◌>>=◌, empty, or_refuse, number_at, extension_of, most_bytes, if_well, guarded}
use Rattle.meaning.specs.Domain.{Spelling, bare, bare_read}
use Rattle.meaning.specs.ReferenceClock.{port_of, address_of, bracket_of, host_of, ntp_of, version_of, gmid_or, gmid_of, domain_of, server_of, ptp_of, clock_of}
use Rattle.meaning.specs.ReferenceClock.{reference_clock_of, read_reference_clock}
use Rattle.meaning.specs.MediaClock.{most32, denominator_of, ratio_of, rate_of, offset_of, direct_of, broken_number, stream_or, stream_of}
use Rattle.meaning.specs.MediaClock.{media_clock_of, tag_of, id_of, tagged_of, source_of, media_clock_source_of, read_media_clock_source}
use Rattle.meaning.specs.Demand1.{RefusalOf, RefRefusals, MediaRefusals}
use Rattle.meaning.proofs.Told.{starts_length}
use Rattle.eui64.specs.declared.Fault.{Fault}
use Rattle.number.specs.declared.Reason.{Reason}

-- an answer of which a refusal is one of the value v
data Placed {A : Type 0} (v : List ℕ) : Answer A → Type 0 where
  read : (a : A) → Placed v (Ok a)
  not_read : (r : Refusal) → RefusalOf v r → Placed v (Err r)

placed_refusal : {A : Type 0} {v : List ℕ} {x : Answer A} (r : Refusal) → Placed v x → x ≡ Err r → RefusalOf v r
placed_refusal r (read a) h = clash (cc)
placed_refusal r (not_read q p) h = let e : q ≡ r = cc in rw e at p

-- a number of the rules
abbrev numbered : ℕ → Bool
numbered k = leb 1 k && leb k 22

broken_numbered : (rule : BrokenRule) → numbered (broken_number rule) ≡ true
broken_numbered Length = refl
broken_numbered SegmentLength = refl
broken_numbered SegmentDigits = refl

-- parts of a text s that ends where `end` is or before: what stands behind i bytes and one more, before the first b, and behind a word
module _ {end : ℕ} (at : ℕ) (s : List ℕ) (h : at + length s ≤ end) where
  behind : (i : ℕ) → i < length s → at + (i + 1) + length (drop (i + 1) s) ≤ end
  behind i l = omega (arith, length-drop (i + 1) s)

  front : (b : ℕ) → at + length (take (before b s) s) ≤ end
  front b = omega (arith, before_length b s, before_le b s)

  beyond : (w : List ℕ) → starts w s ≡ true → at + length w + length (drop (length w) s) ≤ end
  beyond w e = omega (arith, starts_length w s e)

module _ {v : List ℕ} where
  at_place : {k at n : ℕ} → numbered k ≡ true → at + n ≤ length v → RefusalOf v (refusal k at n)
  at_place {k} {at} {n} e h =
      record {
        least = leb-true 1 k (and_left (leb 1 k) (leb k 22) e);
        most = leb-true k 22 (and_right (leb 1 k) (leb k 22) e);
        inside = h;
      }

  module _ {A : Type 0} where
    stop : {k at n : ℕ} → numbered k ≡ true → at + n ≤ length v → Placed {A = A} v (refuse k at n)
    stop e h = not_read _ (at_place e h)

    choose : (b : Bool) {x y : Answer A} → (b ≡ true → Placed v x) → (b ≡ false → Placed v y) → Placed v (cond b x y)
    choose true p q = p refl
    choose false p q = q refl

    either : (b : Bool) {x y : Answer A} → Placed v x → Placed v y → Placed v (cond b x y)
    either b p q = choose b (λ e. p) (λ e. q)

    module _ {B : Type 0} where
      onward : {x : Answer A} {f : A → Answer B} → Placed v x → ((a : A) → Placed v (f a)) → Placed v (x >>= f)
      onward (read a) p = p a
      onward (not_read r q) p = not_read r q

  number_or : (n : Result ℕ Reason) (r : Refusal) → RefusalOf v r → Placed v (or_refuse n r)
  number_or (Ok n) r p = read n
  number_or (Err why) r p = not_read r p

  number : (limit k at : ℕ) (s : List ℕ) → numbered k ≡ true → at + length s ≤ length v → Placed v (number_at limit k at s)
  number limit k at s e h = number_or (number_of limit s) (refusal k at (length s)) (at_place e h)

  extension : {A : Type 0} (make : Place → Option Place → A) (k at : ℕ) (s : List ℕ) → numbered k ≡ true → at ≤ length v
      → Placed v (extension_of make k at s)
  unfolding extension_of
  extension make k at s e h = either (eqb (before 61 s) 0) (stop e (omega arith)) (read _)

  -- ts-refclk
  port : (r : Refusal) (s : List ℕ) → RefusalOf v r → Placed v (port_of r s)
  unfolding port_of
  port r s p = onward (number_or (number_of 65535 s) r p) (λ n. read _)

  address : (r : Refusal) (at : ℕ) (s : List ℕ) (o : Option ℕ) → RefusalOf v r → Placed v (address_of r at s o)
  unfolding address_of
  address r at s o p = either (ip_address s) (read _) (not_read r p)

  version : (at : ℕ) (s : List ℕ) → at ≤ length v → Placed v (version_of at s)
  unfolding version_of
  version at s h =
      either (empty s) (stop refl (omega arith))
      (either (same s (word "IEEE1588-2002")) (read _)
      (either (same s (word "IEEE1588-2008")) (read _)
      (either (same s (word "IEEE802.1AS-2011")) (read _) (read _))))

  gmid_or_lem : (x : Result ℕ Fault) (r : Refusal) → RefusalOf v r → Placed v (gmid_or x r)
  gmid_or_lem (Ok n) r p = read _
  gmid_or_lem (Err fault) r p = not_read r p

  -- of a text that ends inside the value
  module _ (at : ℕ) (s : List ℕ) (h : at + length s ≤ length v) where
    bracket : Placed v (bracket_of at s)
    unfolding bracket_of
    bracket =
        let p : RefusalOf v (refusal 4 at (length s)) = at_place refl h in
        let t = drop 1 s in
        either (ltb (before_pair 93 58 t) (length t)) (onward (port _ _ p) (λ o. address _ _ _ o p))
        (either (ends_in 93 t) (address _ _ _ _ p) (not_read _ p))

    host : Placed v (host_of at s)
    unfolding host_of
    host =
        either (eqb (through_last 58 s) 0) (read _)
        (either (eqb (through_last 58 s) 1) (stop refl (omega arith))
        (onward (port _ _ (at_place refl (omega (arith, last_le 58 s)))) (λ o. read _)))

    ntp : Placed v (ntp_of at s)
    unfolding ntp_of
    ntp =
        either (empty s) (stop refl (omega arith))
        (either (same s (word "/traceable/")) (read _)
        (either (ip_address s) (read _)
        (either (starts (word "[") s) bracket host)))

    gmid : Placed v (gmid_of at s)
    unfolding gmid_of
    gmid = gmid_or_lem (eui64_of s) (refusal 9 at (length s)) (at_place refl h)

    bare_domain : Placed v (bare_read at s)
    unfolding bare_read
    bare_domain = either (eqb (length s) 16) (read _) (onward (number 127 10 at s refl h) (λ n. read _))

  -- with any spelling of domains that keeps this
  module _ (spelling : Spelling) (domain : (at : ℕ) (s : List ℕ) → at + length s ≤ length v → Placed v (spelling.read at s)) where
    domain_behind : (i at : ℕ) (s : List ℕ) → at + length s ≤ length v → Placed v (domain_of spelling i at s)
    unfolding domain_of
    domain_behind i at s h =
        choose (ltb i (length s)) (λ e. onward (domain _ _ (behind at s h i (ltb-true i (length s) e))) (λ d. read _)) (λ e. read _)

    server : (at : ℕ) (s : List ℕ) → at + length s ≤ length v → Placed v (server_of spelling at s)
    unfolding server_of
    server at s h =
        either (empty s) (stop refl (omega arith))
        (either (same s (word "traceable")) (read _)
        (onward (gmid at (take (before 58 s) s) (front at s h 58)) (λ g. onward (domain_behind (before 58 s) at s h) (λ d. read _))))

    ptp : (at : ℕ) (s : List ℕ) → at + length s ≤ length v → Placed v (ptp_of spelling at s)
    unfolding ptp_of
    ptp at s h =
        choose (ltb (before 58 s) (length s))
        (λ e.
        onward (version at (take (before 58 s) s) (omega arith))
        (λ x. onward (server _ _ (behind at s h (before 58 s) (ltb-true (before 58 s) (length s) e))) (λ y. read _)))
        (λ e. stop refl (omega arith))

    clock_placed : Placed v (clock_of spelling v)
    unfolding clock_of
    clock_placed =
        choose (starts (word "ntp=") v) (λ e. onward (ntp 4 (drop 4 v) (beyond 0 v (omega arith) (word "ntp=") e)) (λ x. read _))
        (λ e. choose (starts (word "ptp=") v) (λ f. onward (ptp 4 (drop 4 v) (beyond 0 v (omega arith) (word "ptp=") f)) (λ x. read _))
        (λ f. either (same v (word "gps")) (read _)
        (either (same v (word "gal")) (read _)
        (either (same v (word "glonass")) (read _)
        (either (same v (word "local")) (read _)
        (either (same v (word "private")) (read _)
        (either (same v (word "private:traceable")) (read _)
        (onward (extension clock_source_ext 11 0 v refl (omega arith)) (λ x. read _)))))))))

  -- mediaclk
  denominator : (at : ℕ) (s : List ℕ) → at + length s ≤ length v → Placed v (denominator_of at s)
  unfolding denominator_of
  denominator at s h = onward (number most32 18 at s refl h) (λ n. either (eqb n 0) (stop refl h) (read _))

  ratio : (at : ℕ) (s : List ℕ) → at + length s ≤ length v → Placed v (ratio_of at s)
  unfolding ratio_of
  ratio at s h =
      choose (ltb (before 47 s) (length s))
      (λ e.
      onward (number most32 17 at (take (before 47 s) s) refl (front at s h 47))
      (λ n. onward (denominator _ _ (behind at s h (before 47 s) (ltb-true (before 47 s) (length s) e))) (λ d. read _)))
      (λ e. stop refl h)

  -- what is left of a direct clock is refused only where something is left
  rate : (at : ℕ) (s : List ℕ) → (0 < length s → at + length s ≤ length v) → Placed v (rate_of at s)
  unfolding rate_of
  rate at s h =
      choose (empty s) (λ e. read _)
      (λ e.
      let l : at + length s ≤ length v = h (omega (arith, eqb-false (length s) 0 e)) in
      choose (starts (word "rate=") s) (λ f. ratio (at + 5) (drop 5 s) (beyond at s l (word "rate=") f)) (λ f. stop refl l))

  offset : (at : ℕ) (s : List ℕ) → at + length s ≤ length v → Placed v (offset_of at s)
  unfolding offset_of
  offset at s h =
      onward (number most32 14 at (take (before 32 s) s) refl (front at s h 32))
      (λ n. onward (rate _ _ (λ l. behind at s h (before 32 s) (omega (arith, length-drop (before 32 s + 1) s)))) (λ r. read _))

  module _ (at : ℕ) (s : List ℕ) (h : at + length s ≤ length v) where
    direct : Placed v (direct_of at s)
    unfolding direct_of
    direct =
        either (empty s) (read _)
        (choose (starts (word "=") s) (λ e. offset (at + 1) (drop 1 s) (beyond at s h (word "=") e))
        (λ e. choose (starts (word " ") s) (λ f. onward (rate (at + 1) (drop 1 s) (λ l. beyond at s h (word " ") f)) (λ r. read _)) (λ f. stop refl h)))

    stream_or_lem : (x : Result ℕ Fault) → x ≡ eui64_of s → Placed v (stream_or at x)
    stream_or_lem (Ok n) e = read _
    stream_or_lem (Err fault) e = stop (broken_numbered fault.rule) (omega (arith, eui_fault fault s e))

    stream : Placed v (stream_of at s)
    unfolding stream_of
    stream = stream_or_lem (eui64_of s) refl

  module _ (at : ℕ) (s : List ℕ) (h : at + length s ≤ length v) where
    media_clock : Placed v (media_clock_of at s)
    unfolding media_clock_of
    media_clock =
        either (same s (word "sender")) (read _)
        (choose (starts (word "direct") s) (λ e. onward (direct (at + 6) (drop 6 s) (beyond at s h (word "direct") e)) (λ d. read _))
        (λ e. choose (starts (word "IEEE1722=") s) (λ f. onward (stream (at + 9) (drop 9 s) (beyond at s h (word "IEEE1722=") f)) (λ g. read _))
        (λ f. onward (extension media_clock_ext 22 at s refl (omega arith)) (λ x. read _))))

    tag : (src : Bool) → Placed v (tag_of src at s)
    unfolding tag_of
    tag src = either (empty s) (stop refl (omega arith)) (read _)

  id : (at : ℕ) (s : List ℕ) → at + length s ≤ length v → Placed v (id_of at s)
  unfolding id_of
  id at s h =
      choose (starts (word "src:") s) (λ e. tag (at + 4) (drop 4 s) (beyond at s h (word "src:") e) true) (λ e. tag at s h false)

  tagged : (at : ℕ) (s : List ℕ) → at + length s ≤ length v → Placed v (tagged_of at s)
  unfolding tagged_of
  tagged at s h =
      choose (ltb (before 32 s) (length s))
      (λ e.
      onward (id at (take (before 32 s) s) (front at s h 32))
      (λ d. onward (media_clock _ _ (behind at s h (before 32 s) (ltb-true (before 32 s) (length s) e))) (λ c. read _)))
      (λ e. stop refl (omega arith))

  source_placed : Placed v (source_of v)
  unfolding source_of
  source_placed =
      choose (starts (word "id=") v) (λ e. tagged 3 (drop 3 v) (beyond 0 v (omega arith) (word "id=") e))
      (λ e. onward (media_clock 0 v (omega arith)) (λ c. read _))

-- a refusal of the guard is one of the value, and so are those of the rules
guard_placed : {A : Type 0} (v : List ℕ) (x : Answer A) → Placed v x → Placed v (guarded v x)
unfolding guarded
guard_placed {A} v x p =
    choose (ltb most_bytes (length v)) (λ e. stop refl (omega (arith, ltb-true most_bytes (length v) e)))
    (λ e. go (utf8_of v) refl)
  where
    go : (u : Result ⊤ ℕ) → utf8_of v ≡ u → Placed v (if_well u x)
    go (Ok tt) e = p
    go (Err n) e = stop refl (omega (arith, utf8_ill v n e))

pub ref_refusals : RefRefusals
unfolding read_reference_clock reference_clock_of
ref_refusals v r h = go (guarded v (clock_of bare v)) (guard_placed v (clock_of bare v) (clock_placed bare bare_domain)) h
  where
    go : (x : Answer ReferenceClock) → Placed v x → x ≡ Err r → RefusalOf v r
    go (Ok c) p h = clash (cc)
    go (Err q) p h = placed_refusal r p (cc)

pub media_refusals : MediaRefusals
unfolding read_media_clock_source media_clock_source_of
media_refusals v r h = go (guarded v (source_of v)) (guard_placed v (source_of v) source_placed) h
  where
    go : (x : Answer MediaClockSource) → Placed v x → x ≡ Err r → RefusalOf v r
    go (Ok m) p h = clash (cc)
    go (Err q) p h = placed_refusal r p (cc)
