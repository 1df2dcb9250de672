-- mediaclk read back: the text of an accepted value is no longer than the value, and reads as what means the same. Sender, extensions and ids
-- are written as they were read; direct clocks and streams have no places. Assumes nothing.
use Rattle.std.specs.Prelude.{Result, Some, None, Ok, Err, Option}
use Prim.Native.Nat.{ℕ, ◌+◌, ◌≤◌}
use mathlib.Core.Path.{◌≡◌, refl, sym, ap, subst, ◌∙◌}
use mathlib.Core.List.{List, [], ◌∷◌, ◌++◌, append_assoc}
use mathlib.Core.Bool.{true, false, cond}
use native.Mathlib.Omega.{arith}
use lib.Dec.{ltb}
use lib.ListN.{length, take, drop, length-append}
use lib.Seq.{drop-drop, drop-append-le, take-append_seam}
use borrow.Author.Tests.{ltb-true, le-leb}
use Rattle.text.specs.Find.{before}
use Rattle.text.specs.Word.{word, same, starts}
use Rattle.text.specs.Place.{place, bytes_at}
use Rattle.text.proofs.Bools.{by_bool, clash, both}
use Rattle.text.proofs.Cuts.{same_eq, before_length, drop_join}
use Rattle.eui64.specs.Eui64.{eui64_of, eui64_text}
use Rattle.eui64.proofs.Written.{eui_back, eui_length, eui_ascii, eui_bound, eui_read_length}
use Rattle.utf8.specs.Utf8.{utf8_of}
use Rattle.utf8.proofs.Text.{utf8_ascii, utf8_append, utf8_cut, utf8_all_ascii}
use Rattle.clock.specs.Records.{eui64}
use Rattle.mediarecord.specs.Records.{media_clock_source, media_clock_id, media_clock_ext}
use Rattle.clock.specs.declared.Eui64.{Eui64}
use Rattle.mediarecord.specs.declared.Direct.{Direct}
use Rattle.mediarecord.specs.declared.MediaClockExt.{MediaClockExt}
use Rattle.mediarecord.specs.declared.MediaClockId.{MediaClockId}
use Rattle.mediarecord.specs.declared.MediaClock.{MediaClock}
use Rattle.mediarecord.specs.declared.MediaClock.TheVariants as clock
use Rattle.mediarecord.specs.declared.MediaClockSource.{MediaClockSource}
use Rattle.meaning.specs.Answer.{Answer, ◌>>=◌, empty, extension_of}
use Rattle.meaning.specs.MediaClock.{direct_of, stream_or, stream_of, media_clock_of, tag_of, id_of, tagged_of, source_of, media_clock_source_of}
use Rattle.meaning.specs.Meaning.{Tag, plain_tag, src_tag, media_ext, SourceMeaning, id_means, media_means, media_meaning}
use Rattle.meaning.specs.Text.{tag_text, id_text, media_text, source_meaning_text, media_clock_source_text}
use Rattle.meaning.specs.Inside.{id_inside, media_inside, media_clock_source_inside}
use Rattle.meaning.proofs.Told.{was_accepted, starts_cut, starts_length, Told, was_made, was_made_of_two, as_read, guarded_well, cut, joined}
use Rattle.meaning.proofs.Plain.{Plain, plain_told, plain_behind}
use Rattle.meaning.proofs.Extension.{ext_name, ext_value, ext_text, ext_made, ext_means, ext_inside}
use Rattle.meaning.proofs.Direct.{direct_out, direct_plain}
use Rattle.eui64.specs.declared.Fault.{Fault}

stream_plain : (at : ℕ) (s : List ℕ) (g : Eui64) → stream_of at s ≡ Ok g → Plain stream_of s (eui64_text g.id) g
unfolding stream_of
stream_plain at s g h = go (eui64_of s) refl h
  where
    go : (r : Result ℕ Fault) → r ≡ eui64_of s → stream_or at r ≡ Ok g → Plain stream_of s (eui64_text g.id) g
    go (Ok n) e h =
        let k : g ≡ eui64 n = cc in
        rw k
        (record {
          short = omega (arith, eui_length n, eui_read_length s n e);
          low = eui_ascii n;
          back = λ p. rw (← eui_back n (eui_bound s n e));
        })
    go (Err fault) e h = clash (cc)

-- What is told of the clock c that was read of s, the part of the value v from the place `at` on.
record ClockIs (v : List ℕ) (at : ℕ) (s : List ℕ) (c : MediaClock) : Type 0 where
  pub inside : media_inside v c ≡ true
  pub no_id : starts (word "id=") s ≡ false → starts (word "id=") (media_text (media_means v c)) ≡ false
  pub told : Told media_clock_of media_means 0 at s (media_text (media_means v c)) (media_means v c)

module _ (v : List ℕ) (at : ℕ) (s : List ℕ) where
  direct_is : (d : Direct) → starts (word "direct") s ≡ true → direct_of (at + 6) (drop 6 s) ≡ Ok d → ClockIs v at s (clock.Direct d)
  unfolding media_clock_of same
  direct_is d e h =
      let p = direct_plain (at + 6) (drop 6 s) d h in
      let t = plain_behind media_clock_of (clock.Direct d) (word "direct") s (direct_out d) refl e p (λ k. simp (p.back (k + 6))) in
      record { inside = refl; no_id = λ f. refl; told = plain_told at t (λ w. refl) }

  stream_is : (g : Eui64) → starts (word "IEEE1722=") s ≡ true → stream_of (at + 9) (drop 9 s) ≡ Ok g → ClockIs v at s (clock.Ieee1722StreamId g)
  unfolding media_clock_of same
  stream_is g e h =
      let p = stream_plain (at + 9) (drop 9 s) g h in
      let t = plain_behind media_clock_of (clock.Ieee1722StreamId g) (word "IEEE1722=") s (eui64_text g.id) refl e p (λ k. simp (p.back (k + 9))) in
      record { inside = refl; no_id = λ f. refl; told = plain_told at t (λ w. refl) }

  module _ (q : drop at v ≡ s) (l : at + length s ≤ length v) where
    ext_is : (e : MediaClockExt) → extension_of media_clock_ext 22 at s ≡ Ok e → media_clock_of at s ≡ Ok (clock.Ext e)
        → ClockIs v at s (clock.Ext e)
    ext_is e f h =
        let means : (w : List ℕ) → drop at w ≡ s → media_means w (clock.Ext e) ≡ media_ext (ext_name s) (ext_value s) =
        ext_means at s media_clock_ext (λ w i. media_means w (clock.Ext i)) media_ext (λ w n x. refl) 22 e f in
        let text : media_text (media_means v (clock.Ext e)) ≡ s = ap media_text (means v q) ∙ ext_text s in
        record {
          inside = rw (ext_made at s media_clock_ext 22 e f) (ext_inside at s v l);
          no_id = λ i. rw text i;
          told = as_read (clock.Ext e) h text (λ w u. means w u ∙ sym (means v q));
        }

    clock_is : (c : MediaClock) → media_clock_of at s ≡ Ok c → ClockIs v at s c
    unfolding media_clock_of same
    clock_is c h =
        by_bool (same s (word "sender"))
        (λ e.
        let k : c ≡ clock.Sender = cc (simp e at h) in
        rw k (record { inside = refl; no_id = λ f. refl; told = as_read clock.Sender (simp e) (sym (same_eq s (word "sender") e)) (λ w u. refl) }))
        (λ e. by_bool (starts (word "direct") s)
        (λ f.
        let p = was_made (direct_of (at + 6) (drop 6 s)) clock.Direct c (simp (e, f) at h) in
        rw p.made (direct_is p.value f p.is))
        (λ f. by_bool (starts (word "IEEE1722=") s)
        (λ g.
        let p = was_made (stream_of (at + 9) (drop 9 s)) clock.Ieee1722StreamId c (simp (e, f, g) at h) in
        rw p.made (stream_is p.value g p.is))
        (λ g.
        let p = was_made (extension_of media_clock_ext 22 at s) clock.Ext c (simp (e, f, g) at h) in
        rw p.made (ext_is p.value p.is (h ∙ ap Ok p.made)))))

-- an id: its tag is written as it was read
abbrev tag : List ℕ → Tag
tag x = cond (starts (word "src:") x) (src_tag (drop 4 x)) (plain_tag x)

tag_text_lem : (x : List ℕ) → tag_text (tag x) ≡ x
tag_text_lem x = by_bool (starts (word "src:") x) (λ e. simp e (starts_cut (word "src:") x e)) (λ e. simp e)

-- What is told of the id d that was read of x, which stands at the place `at` of the value v with any text behind it.
record IdIs (v : List ℕ) (at : ℕ) (x : List ℕ) (d : MediaClockId) : Type 0 where
  pub inside : id_inside v (Some d) ≡ true
  pub means : (w r : List ℕ) → drop at w ≡ x ++ r → id_means w (Some d) ≡ Some (tag x)

id_is : (v : List ℕ) (at : ℕ) (x : List ℕ) (d : MediaClockId) → at + length x ≤ length v → id_of at x ≡ Ok d → IdIs v at x d
unfolding id_of tag_of bytes_at
id_is v at x d l h =
    by_bool (starts (word "src:") x)
    (λ e. by_bool (empty (drop 4 x)) (λ f. clash (cc (simp (e, f) at h)))
    (λ f.
    let k : d ≡ media_clock_id true (place (at + 4) (length (drop 4 x))) = cc (simp (e, f) at h) in
    let n = starts_length (word "src:") x e in
    rw k
    (record {
      inside = le-leb (at + 4 + length (drop 4 x)) (length v) (omega arith);
      means = λ w r q. simp e (rw (← drop-drop 4 at w, q, drop-append-le 4 x r (omega arith), take-append_seam));
    })))
    (λ e. by_bool (empty x) (λ f. clash (cc (simp (e, f) at h)))
    (λ f.
    let k : d ≡ media_clock_id false (place at (length x)) = cc (simp (e, f) at h) in
    rw k (record { inside = le-leb (at + length x) (length v) l; means = λ w r q. simp e (rw (q, take-append_seam)) })))

-- What is told of a whole value.
record SourceIs (v : List ℕ) (m : MediaClockSource) : Type 0 where
  pub inside : media_clock_source_inside v m ≡ true
  pub told : Told (λ at. source_of) media_meaning 0 0 v (media_clock_source_text v m) (media_meaning v m)

module _ (v : List ℕ) (c : MediaClock) where
  bare_is : starts (word "id=") v ≡ false → media_clock_of 0 v ≡ Ok c → SourceIs v (media_clock_source None c)
  unfolding source_of media_clock_source_inside media_clock_source_text source_meaning_text media_meaning
  bare_is e h =
      let i = clock_is v 0 v refl (omega arith) c h in
      let t = media_text (media_means v c) in
      record {
        inside = i.inside;
        told = record {
          short = i.told.short;
          form = i.told.form;
          back = λ w q.
              let p = was_made (media_clock_of 0 t) (media_means w) (media_means v c) (i.told.back w q) in
              simp (i.no_id e) (rw p.is (cc p.made));
        };
      }

source_tagged : (s : List ℕ) → source_of (word "id=" ++ s) ≡ tagged_of 3 s
unfolding source_of same
source_tagged s = refl

-- the text x of an id, and the text y of a clock behind it
abbrev tagged : List ℕ → List ℕ → List ℕ
tagged x y = word "id=" ++ (x ++ 32 ∷ y)

tagged_text : (x : List ℕ) (y : List ℕ) → id_text (Some (tag x)) ++ y ≡ tagged x y
tagged_text x y = rw (tag_text_lem x) (ap (λ (l : List ℕ). word "id=" ++ l) (append_assoc x (32 ∷ []) y))

tagged_form : (x y z : List ℕ) → (utf8_of y ≡ (Ok tt) → utf8_of z ≡ (Ok tt)) → utf8_of (tagged x y) ≡ (Ok tt) → utf8_of (tagged x z) ≡ (Ok tt)
tagged_form x y z f h =
    let p = utf8_cut x 32 y (omega arith) (utf8_cut (word "id") 61 (x ++ 32 ∷ y) (omega arith) h).1 in
    utf8_append (word "id=") (x ++ 32 ∷ z) (utf8_all_ascii (word "id=") refl) (utf8_append x (32 ∷ z) p.0 (utf8_ascii 32 z (omega arith) (f p.1)))

tagged_behind : (x y w : List ℕ) → drop 3 w ≡ x ++ 32 ∷ y → drop (3 + (length x + 1)) w ≡ y
tagged_behind x y w q = rw (← drop-drop (length x + 1) 3 w, q) (drop_join x 32 y (length x) refl)

module _ (x y : List ℕ) (d : MediaClockId) (c : MediaClock) (free : before 32 x ≡ length x) (hd : id_of 3 x ≡ Ok d)
    (hc : media_clock_of (3 + (length x + 1)) y ≡ Ok c) where
  tagged_is : SourceIs (tagged x y) (media_clock_source (Some d) c)
  unfolding tagged_of media_clock_source_inside media_clock_source_text source_meaning_text media_meaning
  tagged_is =
      let v = tagged x y in
      let n = length-append x (32 ∷ y) in
      let j = id_is v 3 x d (omega arith) hd in
      let i = clock_is v (3 + (length x + 1)) y (tagged_behind x y v refl) (omega arith) c hc in
      let t = media_text (media_means v c) in
      let b = joined 32 x t free in
      let e : id_text (id_means v (Some d)) ++ t ≡ tagged x t = ap (λ (k : Option Tag). id_text k ++ t) (j.means v (32 ∷ y) refl) ∙ tagged_text x t in
      record {
        inside = both j.inside i.inside;
        told = record {
          short = omega (arith, ap length e, length-append x (32 ∷ t), i.told.short);
          form = λ h. rw e (tagged_form x y t i.told.form h);
          back = λ w q.
              let u : drop 3 w ≡ x ++ 32 ∷ t = ap (drop 3) (q ∙ e) in
              let p = was_made (media_clock_of (3 + (length x + 1)) t) (media_means w) (media_means v c) (i.told.back w (tagged_behind x t w u)) in
              rw (e, source_tagged (x ++ 32 ∷ t))
              (simp (b.first, b.found, b.front, b.behind, hd)
              (rw p.is (cc (j.means w (32 ∷ t) u, j.means v (32 ∷ y) refl, p.made))));
        };
      }

source_is : (v : List ℕ) (m : MediaClockSource) → source_of v ≡ Ok m → SourceIs v m
unfolding source_of tagged_of
source_is v m h =
    by_bool (starts (word "id=") v)
    (λ e.
    let s = drop 3 v in
    let i = before 32 s in
    by_bool (ltb i (length s))
    (λ l.
    let p = was_made_of_two (id_of 3 (take i s)) (media_clock_of (3 + (i + 1)) (drop (i + 1) s)) (λ d c. media_clock_source (Some d) c) m (simp (e, l) at h) in
    let t = cut 32 s (ltb-true i (length s) l) in
    let w : tagged (take i s) (drop (i + 1) s) ≡ v = ap (λ (z : List ℕ). word "id=" ++ z) t.whole ∙ starts_cut (word "id=") v e in
    rw p.made
    (subst (λ (z : List ℕ). SourceIs z (media_clock_source (Some p.first) p.second)) w
    (tagged_is (take i s) (drop (i + 1) s) p.first p.second t.free p.is_first (rw before_length p.is_second))))
    (λ l. clash (cc (simp (e, l) at h))))
    (λ e.
    let p = was_made (media_clock_of 0 v) (media_clock_source None) m (simp e at h) in
    rw p.made (bare_is v p.value e p.is))

-- demand 3
module _ (v : List ℕ) (m : MediaClockSource) (h : media_clock_source_of v ≡ Ok m) where
  whole : SourceIs v m
  unfolding media_clock_source_of
  whole = source_is v m (was_accepted v (source_of v) m h).is

  -- the places of its record lie inside it
  pub media_inside_lem : media_clock_source_inside v m ≡ true
  media_inside_lem = whole.inside

  -- its text is no longer
  pub media_short : length (media_clock_source_text v m) ≤ length v
  media_short = omega (arith, whole.told.short)

  -- and reads as what means the same
  pub media_back_lem : (media_clock_source_of (media_clock_source_text v m) >>= λ n. Ok (media_meaning (media_clock_source_text v m) n)) ≡ Ok (media_meaning v m)
  unfolding media_clock_source_of
  media_back_lem =
      let a = was_accepted v (source_of v) m h in
      let t = media_clock_source_text v m in
      rw (guarded_well t (source_of t) (omega (arith, a.fits, media_short)) (whole.told.form a.form)) (whole.told.back t refl)

-- two accepted values: their texts are equal exactly when their records mean the same
module _ (v w : List ℕ) (m n : MediaClockSource) where
  pub media_same : media_meaning v m ≡ media_meaning w n → media_clock_source_text v m ≡ media_clock_source_text w n
  unfolding media_clock_source_text
  media_same e = ap source_meaning_text e

  pub media_texts : media_clock_source_of v ≡ Ok m → media_clock_source_of w ≡ Ok n
      → media_clock_source_text v m ≡ media_clock_source_text w n → media_meaning v m ≡ media_meaning w n
  media_texts hv hw e =
      let r : List ℕ → Answer SourceMeaning = λ t. media_clock_source_of t >>= λ k. Ok (media_meaning t k) in
      cc (sym (media_back_lem v m hv) ∙ ap r e ∙ media_back_lem w n hw)
