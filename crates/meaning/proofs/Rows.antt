-- The rows hold. They are of bytes below 128 and short, so that length and form are settled by a law and only the rules are computed.
-- Assumes nothing.
use Rattle.std.specs.Prelude.{Ok}
use Prim.Native.Nat.{ℕ, ◌≤◌}
use mathlib.Core.Path.{◌≡◌, refl, ◌∙◌}
use mathlib.Core.List.{List, [], ◌∷◌, ◌++◌, map, map-append}
use mathlib.Core.Bool.{Bool, true, ◌&&◌}
use lib.Dec.{leb}
use lib.ListN.{length}
use borrow.Author.Tests.{leb-true}
use Rattle.text.specs.Find.{before, before_pair, through_last}
use Rattle.text.specs.Word.{same, ends_in}
use Rattle.text.specs.Place.{bytes_at}
use Rattle.text.specs.Example.{Example, Each}
use Rattle.text.proofs.Ascii.{ascii}
use Rattle.text.proofs.Bools.{and_left, and_right}
use Rattle.abnf.specs.Rule.{nothing, range, ◌or◌, ◌then◌, times, upto}
use Rattle.number.specs.Decimal.{all_digits, value_from, digits_of, number_of, digits_in, decimal}
use Rattle.number.specs.Hex.{hex_digit, hex_capital}
use Rattle.eui64.specs.Eui64.{cut_at_each, high_digit, segment_of, segments_of, eui64_of, segments_text, eui64_text}
use Rattle.utf8.specs.Utf8.{utf8_of}
use Rattle.utf8.proofs.Text.{utf8_all_ascii}
use Rattle.ipaddr.specs.Address.{hexdig, dec_octet, ipv4address, h16, h16colon, double_colon, ls32, ipv6address, ip_address}
use Rattle.meaning.specs.Answer.{extension_of}
use Rattle.meaning.specs.Domain.{bare, bare_read, bare_text}
use Rattle.meaning.specs.ReferenceClock.{port_of, address_of, bracket_of, host_of, ntp_of, version_of, gmid_of, domain_of, server_of, ptp_of, clock_of}
use Rattle.meaning.specs.ReferenceClock.{reference_clock_of, read_reference_clock}
use Rattle.meaning.specs.MediaClock.{denominator_of, ratio_of, rate_of, offset_of, direct_of, stream_of, media_clock_of, tag_of, id_of, tagged_of}
use Rattle.meaning.specs.MediaClock.{source_of, media_clock_source_of, read_media_clock_source}
use Rattle.meaning.specs.Meaning.{ref_meaning, media_meaning}
use Rattle.meaning.specs.Text.{ref_meaning_text, reference_clock_text, source_meaning_text, media_clock_source_text}
use Rattle.meaning.proofs.Told.{guarded_well}
use Rattle.meaning.specs.Rows.{Given, ts-refclk, mediaclk, ReadAndWritten, ref_written, source_written, read_and_written, edges, domains}

abbrev pub short : List ℕ → Bool
short s = leb (length s) 1024 && ascii s

abbrev pub plain : Given → Bool
plain (ts-refclk v) = short v
plain (mediaclk v) = short v

abbrev plainly : Given → ReadAndWritten
plainly (ts-refclk v) = ref_written v (clock_of bare v)
plainly (mediaclk v) = source_written v (source_of v)

module _ (v : List ℕ) (h : short v ≡ true) where
  fits : length v ≤ 1024
  fits = leb-true (length v) 1024 (and_left (leb (length v) 1024) (ascii v) h)

  form : utf8_of v ≡ (Ok tt)
  form = utf8_all_ascii v (and_right (leb (length v) 1024) (ascii v) h)

  pub ref_plain : read_reference_clock v ≡ clock_of bare v
  unfolding read_reference_clock reference_clock_of
  ref_plain = rw (guarded_well v (clock_of bare v) fits form)

  pub media_plain : read_media_clock_source v ≡ source_of v
  unfolding read_media_clock_source media_clock_source_of
  media_plain = rw (guarded_well v (source_of v) fits form)

plainly_is : (g : Given) → plain g ≡ true → read_and_written g ≡ plainly g
plainly_is (ts-refclk v) h = rw (ref_plain v h)
plainly_is (mediaclk v) h = rw (media_plain v h)

-- rows, and rows behind them
pub each_append : {A B : Type 0} (f : A → B) (a b : List (Example A B)) → Each f a → Each f b → Each f (a ++ b)
each_append f a b h e = simp map-append (cc (h, e))

-- rows hold of f that hold of g, where the two agree on what is given
module _ {A B : Type 0} (f g : A → B) (ok : A → Bool) (agree : (a : A) → ok a ≡ true → f a ≡ g a) where
  abbrev pub all_ok : List (Example A B) → Bool
  all_ok [] = true
  all_ok (r ∷ rows) = ok r.given && all_ok rows

  pub each_where : (rows : List (Example A B)) → all_ok rows ≡ true → Each g rows → Each f rows
  each_where rows h e = go rows h ∙ e
    where
      go : (rows : List (Example A B)) → all_ok rows ≡ true
          → map (λ (r : Example A B). f r.given) rows ≡ map (λ (r : Example A B). g r.given) rows
      go [] h = refl
      go (r ∷ rows) h =
          rw (agree r.given (and_left (ok r.given) (all_ok rows) h), go rows (and_right (ok r.given) (all_ok rows) h))

pub edges_hold : Each read_and_written edges
unfolding clock_of ntp_of host_of bracket_of address_of port_of ptp_of version_of server_of gmid_of domain_of bare_read extension_of source_of tagged_of id_of tag_of
    media_clock_of stream_of direct_of offset_of rate_of ratio_of denominator_of reference_clock_text ref_meaning_text ref_meaning bare_text media_clock_source_text
    source_meaning_text media_meaning before before_pair through_last same ends_in bytes_at number_of digits_of all_digits value_from decimal digits_in hex_digit
    hex_capital eui64_of segments_of segment_of high_digit cut_at_each eui64_text segments_text ip_address ipv6address ipv4address ls32 double_colon h16colon h16
    dec_octet hexdig nothing range ◌or◌ ◌then◌ times upto
edges_hold = each_where read_and_written plainly plain plainly_is edges refl refl

pub domains_hold : Each read_and_written domains
unfolding clock_of ptp_of version_of server_of gmid_of domain_of bare_read reference_clock_text ref_meaning_text ref_meaning bare_text before same bytes_at number_of
    digits_of all_digits value_from decimal digits_in hex_digit hex_capital eui64_of segments_of segment_of high_digit cut_at_each eui64_text segments_text
domains_hold = each_where read_and_written plainly plain plainly_is domains refl refl
