-- The rows of the refusals hold: the first two by the guard, and of the others, which are short and of bytes below 128, the rules are computed.
-- Assumes nothing.
use Rattle.std.specs.Prelude.{Option}
use mathlib.Core.Path.{◌≡◌, refl, sym}
use mathlib.Core.List.{◌++◌}
use mathlib.Core.Bool.{true, false}
use native.Mathlib.Omega.{arith}
use lib.ListN.{length, take, drop, replicate}
use borrow.Author.Tests.{ltb-true}
use Rattle.text.specs.Find.{before, before_pair, through_last}
use Rattle.text.specs.Word.{word, same}
use Rattle.text.specs.Example.{Each}
use Rattle.abnf.specs.Rule.{nothing, range, ◌or◌, ◌then◌, ◌then_many◌, longest}
use Rattle.abnf.proofs.Sizes.{count_of}
use Rattle.number.specs.Decimal.{all_digits, value_from, digits_of, number_of}
use Rattle.number.specs.Hex.{hex_digit}
use Rattle.eui64.specs.Eui64.{cut_at_each, high_digit, segment_of, segments_of, eui64_of}
use Rattle.utf8.specs.Utf8.{utf8_char, utf8_of}
use Rattle.ipaddr.specs.Address.{ip_address}
use Rattle.ipaddr.proofs.Fits.{one_colon, first_high, first_bracket}
use Rattle.clock.specs.declared.Refusal.{Refusal}
use Rattle.meaning.specs.Answer.{extension_of, guarded}
use Rattle.meaning.specs.Domain.{bare, bare_read}
use Rattle.meaning.specs.ReferenceClock.{port_of, bracket_of, host_of, ntp_of, version_of, gmid_of, domain_of, server_of, ptp_of, clock_of}
use Rattle.meaning.specs.ReferenceClock.{reference_clock_of, read_reference_clock}
use Rattle.meaning.specs.MediaClock.{denominator_of, ratio_of, rate_of, offset_of, direct_of, stream_of, media_clock_of, tag_of, id_of, tagged_of}
use Rattle.meaning.specs.MediaClock.{source_of}
use Rattle.meaning.specs.Rows.{Given, ts-refclk, mediaclk}
use Rattle.meaning.specs.Refusals.{ref_reason, source_reason, reason, refusals}
use Rattle.meaning.proofs.Told.{guarded_long}
use Rattle.meaning.proofs.Rows.{plain, ref_plain, media_plain, each_append, each_where}

abbrev reason_plain : Given → Option Refusal
reason_plain (ts-refclk v) = ref_reason (clock_of bare v)
reason_plain (mediaclk v) = source_reason (source_of v)

reason_plain_lem : (g : Given) → plain g ≡ true → reason g ≡ reason_plain g
reason_plain_lem (ts-refclk v) h = rw (ref_plain v h)
reason_plain_lem (mediaclk v) h = rw (media_plain v h)

-- the first two are refused before the rules are asked
long_row : Each reason (take 1 refusals)
unfolding read_reference_clock reference_clock_of
long_row =
    let s = word "ntp=" ++ replicate 1021 120 in
    rw (guarded_long s (clock_of bare s) (ltb-true 1024 (length s) refl))

ill_row : Each reason (take 1 (drop 1 refusals))
unfolding read_reference_clock reference_clock_of guarded utf8_of utf8_char nothing range ◌or◌ ◌then◌ ◌then_many◌ longest
ill_row = refl

-- the hosts of the next four are no addresses: none begins with a bracket or with a letter behind f, and none has one colon
bracket_first : ip_address (word "[::1]:http") ≡ false
bracket_first = sym (first_bracket (word "[::1]:http") (λ e. omega arith) refl)

letter_first : ip_address (word "ntp.example.org:80a") ≡ false
letter_first = sym (first_high (word "ntp.example.org:80a") (λ e. omega arith) (omega arith))

colon_alone : ip_address (word ":80") ≡ false
unfolding count_of
colon_alone = one_colon (word ":80") refl

ntp_rows : Each reason (take 4 (drop 2 refusals))
unfolding clock_of ntp_of host_of bracket_of port_of before_pair through_last same number_of digits_of all_digits value_from
ntp_rows = each_where reason reason_plain plain reason_plain_lem (take 4 (drop 2 refusals)) refl (rw (bracket_first, letter_first, colon_alone))

ptp_rows : Each reason (take 5 (drop 6 refusals))
unfolding clock_of ptp_of version_of server_of gmid_of domain_of bare_read extension_of before same number_of digits_of all_digits value_from hex_digit eui64_of
    segments_of segment_of high_digit cut_at_each
ptp_rows = each_where reason reason_plain plain reason_plain_lem (take 5 (drop 6 refusals)) refl refl

media_rows : Each reason (drop 11 refusals)
unfolding source_of tagged_of id_of tag_of media_clock_of stream_of direct_of offset_of rate_of ratio_of denominator_of extension_of before same number_of digits_of
    all_digits value_from hex_digit eui64_of segments_of segment_of high_digit cut_at_each
media_rows = each_where reason reason_plain plain reason_plain_lem (drop 11 refusals) refl refl

pub refusals_hold : Each reason refusals
refusals_hold =
    each_append reason (take 1 refusals) (drop 1 refusals) long_row
    (each_append reason (take 1 (drop 1 refusals)) (drop 2 refusals) ill_row
    (each_append reason (take 4 (drop 2 refusals)) (drop 6 refusals) ntp_rows
    (each_append reason (take 5 (drop 6 refusals)) (drop 11 refusals) ptp_rows media_rows)))
