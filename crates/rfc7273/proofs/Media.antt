-- mediaclk: a text reads as what it means. Assumes nothing.
use Rattle.std.specs.Prelude.{Some, None, Ok, Option}
use Prim.Native.Nat.{ℕ, ◌+◌, ◌≤◌}
use mathlib.Core.Path.{◌≡◌, refl, ap, ◌∙◌}
use mathlib.Core.Bool.{true, false}
use mathlib.Core.List.{List, ◌∷◌, ◌++◌}
use native.Mathlib.Omega.{arith}
use lib.Dec.{eqb}
use lib.ListN.{length, drop}
use Rattle.text.specs.Find.{before}
use Rattle.text.specs.Word.{word, same, starts}
use Rattle.text.specs.Place.{place}
use Rattle.text.proofs.Bools.{by_bool, clash, neither}
use Rattle.text.proofs.Cuts.{before_append, drop_join}
use Rattle.abnf.proofs.Free.{Lacks, free_laws}
use Rattle.utf8.specs.Utf8.{utf8_of}
use Rattle.utf8.proofs.Text.{utf8_ascii, utf8_append, utf8_all_ascii}
use Rattle.clock.specs.Records.{eui64}
use Rattle.mediarecord.specs.Records.{media_clock_ext, media_clock_id, media_clock_source}
use Rattle.mediarecord.specs.declared.MediaClockId.{MediaClockId}
use Rattle.mediarecord.specs.declared.MediaClock.{MediaClock}
use Rattle.mediarecord.specs.declared.MediaClock.TheVariants as clock
use Rattle.mediarecord.specs.declared.MediaClockSource.{MediaClockSource}
use Rattle.meaning.specs.MediaClock.{stream_of, media_clock_of, tag_of, id_of, tagged_of, source_of, media_clock_source_of, read_media_clock_source}
use Rattle.meaning.specs.Meaning.{Tag, MediaMeaning, media_ext, SourceMeaning, media_source, id_means, media_means, media_meaning}
use Rattle.meaning.proofs.Told.{guarded_well, joined, starts_cut, further, bytes_front}
use Rattle.rfc7273.specs.Manner.{narrowed}
use Rattle.rfc7273.specs.Elsewhere.{alpha, base64_char, base64}
use Rattle.rfc7273.specs.Grammar.{tag, left_to_media_ext, left_to_no_id}
use Rattle.rfc7273.specs.Means.{hex_value_from, ExtText, MediaText, sender_text, direct_text, stream_text, media_ext_text, TagText, plain_text}
use Rattle.rfc7273.specs.Means.{src_text, SourceText, untagged_text, tagged_text}
use Rattle.rfc7273.specs.Taken.{MediaReads}
use Rattle.rfc7273.proofs.Laws.{Reads, of_only, lacks_before, high_range, Low, low_well, not_so}
use Rattle.rfc7273.proofs.Parts.{eui_read}
use Rattle.rfc7273.proofs.Extension.{ext_cut, ext_reads}
use Rattle.rfc7273.proofs.Ptp.{eui_low}
use Rattle.rfc7273.proofs.Direct.{DirectRest, direct_read}

-- a clock, wherever it stands to the end of a value
record Clock (s : List ℕ) (m : MediaMeaning) : Type 0 where
  well : utf8_of s ≡ (Ok tt)
  read : (at : ℕ) (w : List ℕ) → drop at w ≡ s → Reads (media_clock_of at s) (media_means w) m

of_direct : (t : List ℕ) (m : MediaMeaning) → DirectRest t m → Clock (word "direct" ++ t) m
unfolding media_clock_of same
of_direct t m r =
    record {
      well = utf8_append (word "direct") t (utf8_all_ascii (word "direct") refl) r.well;
      read = λ at w q. let k = r.read (at + 6) in record { made = clock.Direct k.made; is = rw k.is; tells = k.tells };
    }

of_ext : (s n : List ℕ) (x : Option (List ℕ)) → ExtText s n x → left_to_media_ext s ≡ true → Clock s (media_ext n x)
unfolding media_clock_of
of_ext s n x t k =
    let b = neither (same s (word "sender")) _ (not_so _ k) in
    let c = neither (starts (word "direct") s) (starts (word "IEEE1722=") s) b.1 in
    let e = ext_cut t in
    record {
      well = e.well;
      read = λ at w q.
          let r = ext_reads media_clock_ext (λ w i. media_means w (clock.Ext i)) media_ext (λ w n x. refl) 22 at s n x e w q in
          record { made = clock.Ext r.made; is = simp (b.0, c.0, c.1, r.is); tells = r.tells };
    }

of_clock_lem : {s : List ℕ} {m : MediaMeaning} → MediaText s m → Clock s m
unfolding media_clock_of stream_of same
of_clock_lem sender_text =
    record { well = utf8_all_ascii (word "sender") refl; read = λ at w q. record { made = clock.Sender; is = refl; tells = refl } }
of_clock_lem (direct_text o r a b t u) = of_direct (o ++ r) _ (direct_read t u)
of_clock_lem (stream_text g h) =
    record {
      well = utf8_append (word "IEEE1722=") g (utf8_all_ascii (word "IEEE1722=") refl) (low_well eui_low g h);
      read = λ at w q. record { made = clock.Ieee1722StreamId (eui64 (hex_value_from 0 g)); is = rw (eui_read g h).read; tells = refl };
    }
of_clock_lem (media_ext_text s n x t k) = of_ext s n x t k

-- an id, as it stands before the space
record Id (x : List ℕ) (m : Tag) : Type 0 where
  well : utf8_of x ≡ (Ok tt)
  free : before 32 x ≡ length x
  read : (w y : List ℕ) → drop 3 w ≡ x ++ y → Reads (id_of 3 x) (λ d. id_means w (Some d)) (Some m)

pub base64_space : Lacks 32 base64
unfolding base64 base64_char alpha
base64_space = search free_laws depth 30

base64_colon : Lacks 58 base64
unfolding base64 base64_char alpha
base64_colon = search free_laws depth 30

base64_low : Low base64
unfolding base64 base64_char alpha
base64_low c h = search (free_laws, high_range) depth 30

-- a tag: base64, and not empty
record TagBytes (t : List ℕ) : Type 0 where
  well : utf8_of t ≡ (Ok tt)
  free : before 32 t ≡ length t
  no_src : starts (word "src:") t ≡ false
  some : eqb (length t) 0 ≡ false

of_tag : (t : List ℕ) → tag narrowed t ≡ true → TagBytes t
unfolding tag
of_tag =
    of_only TagBytes {p = base64} (λ t h k.
    record {
      well = low_well base64_low t h;
      free = lacks_before base64_space t h;
      no_src =
          by_bool (starts (word "src:") t)
          (λ e. clash (cc (base64_colon.free (word "src") (drop 4 t), ap base64 (starts_cut (word "src:") t e)))) (λ e. e);
      some = not_so (eqb (length t) 0) k;
    })

of_id : {x : List ℕ} {m : Tag} → TagText x m → Id x m
unfolding id_of tag_of same before
of_id (plain_text t h) =
    let k = of_tag t h in
    record {
      well = k.well;
      free = k.free;
      read = λ w y q.
          record {
            made = media_clock_id false (place 3 (length t));
            is = simp (k.no_src, k.some);
            tells = rw (bytes_front w 3 t y q);
          };
    }
of_id (src_text t h) =
    let k = of_tag t h in
    record {
      well = utf8_append (word "src:") t (utf8_all_ascii (word "src:") refl) k.well;
      free = before_append 32 (word "src:") t refl ∙ rw k.free (omega arith);
      read = λ w y q.
          record {
            made = media_clock_id true (place 7 (length t));
            is = simp k.some;
            tells = rw (bytes_front w 7 t y (further w 3 4 (word "src:" ++ (t ++ y)) q));
          };
    }

-- the whole value
abbrev As : List ℕ → SourceMeaning → Type 0
As s m = length s ≤ 1024 → MediaReads s m

by_rules : (s : List ℕ) (m : SourceMeaning) (c : MediaClockSource) → utf8_of s ≡ (Ok tt) → source_of s ≡ Ok c → media_meaning s c ≡ m → As s m
unfolding read_media_clock_source media_clock_source_of
by_rules s m c w e k h = record { source = c; accepted = rw (guarded_well s (source_of s) h w, e); means = k }

untagged : (s : List ℕ) (m : MediaMeaning) → left_to_no_id s ≡ true → Clock s m → As s (media_source None m)
unfolding source_of media_meaning
untagged s m e c =
    let r = c.read 0 s refl in
    by_rules s (media_source None m) (media_clock_source None r.made) c.well
    (simp (not_so (starts (word "id=") s) e, r.is)) (rw r.tells)

tagged_is : (x y : List ℕ) (i : MediaClockId) (c : MediaClock) → before 32 x ≡ length x → id_of 3 x ≡ Ok i
    → media_clock_of (3 + (length x + 1)) y ≡ Ok c → source_of (word "id=" ++ (x ++ 32 ∷ y)) ≡ Ok (media_clock_source (Some i) c)
unfolding source_of tagged_of same
tagged_is x y i c f g h = let j = joined 32 x y f in simp (j.first, j.found, j.front, j.behind, g, h)

tagged : (x y : List ℕ) (a : Tag) (m : MediaMeaning) → Id x a → Clock y m → As (word "id=" ++ (x ++ 32 ∷ y)) (media_source (Some a) m)
unfolding media_meaning
tagged x y a m t c =
    let s = word "id=" ++ (x ++ 32 ∷ y) in
    let at = 3 + (length x + 1) in
    let i = t.read s (32 ∷ y) refl in
    let r = c.read at s (further s 3 (length x + 1) (x ++ 32 ∷ y) refl ∙ drop_join x 32 y (length x) refl) in
    by_rules s (media_source (Some a) m) (media_clock_source (Some i.made) r.made)
    (utf8_append (word "id=") (x ++ 32 ∷ y) (utf8_all_ascii (word "id=") refl)
    (utf8_append x (32 ∷ y) t.well (utf8_ascii 32 y (omega arith) c.well)))
    (tagged_is x y i.made r.made t.free i.is r.is) (rw (i.tells, r.tells))

pub media_read : {s : List ℕ} {m : SourceMeaning} → SourceText s m → As s m
media_read (untagged_text s m t e) = untagged s m e (of_clock_lem t)
media_read (tagged_text x y a m t u) = tagged x y a m (of_id t) (of_clock_lem u)
