-- The rows hold. They are short and nearly all of bytes below 128, so that length and form are settled by laws, and the grammar is computed in its
-- quick form. Assumes nothing.
use Prim.Native.Nat.{ℕ, ◌≤◌}
use mathlib.Core.Path.{◌≡◌, refl, ap}
use mathlib.Core.Bool.{Bool, true, false, ◌&&◌, not}
use mathlib.Core.List.{List, [], ◌∷◌}
use lib.Dec.{leb}
use lib.ListN.{length}
use borrow.Author.Tests.{leb-true}
use Rattle.utf8.specs.Utf8.{utf8_char, utf8_octets}
use Rattle.utf8.proofs.Text.{utf8_all_ascii}
use Rattle.text.proofs.Ascii.{ascii}
use Rattle.text.proofs.Bools.{and_left, and_right}
use Rattle.abnf.proofs.Rules.{cut}
use Rattle.text.specs.Find.{before, before_pair, through_last}
use Rattle.text.specs.Word.{same, ends_in}
use Rattle.text.specs.Place.{bytes_at}
use Rattle.text.specs.Example.{Each}
use Rattle.abnf.specs.Rule.{Rule, nothing, range, ◌or◌, ◌then◌, ◌then_many◌, times, upto}
use Rattle.number.specs.Decimal.{all_digits, value_from, digits_of, number_of, digits_in, decimal}
use Rattle.number.specs.Hex.{hex_digit}
use Rattle.eui64.specs.Eui64.{cut_at_each, high_digit, segment_of, segments_of, eui64_of}
use Rattle.ipaddr.specs.Address.{hexdig, dec_octet, ipv4address, h16, h16colon, double_colon, ls32, ipv6address, ip_address}
use Rattle.meaning.specs.Answer.{extension_of}
use Rattle.meaning.specs.Domain.{bare, bare_read}
use Rattle.meaning.specs.ReferenceClock.{port_of, address_of, bracket_of, host_of, ntp_of, version_of, gmid_of, domain_of, server_of, ptp_of, clock_of}
use Rattle.meaning.specs.MediaClock.{denominator_of, ratio_of, rate_of, offset_of, direct_of, stream_of, media_clock_of, tag_of, id_of, tagged_of, source_of}
use Rattle.meaning.specs.MediaClock.{media_clock_source_of, read_media_clock_source}
use Rattle.meaning.specs.Meaning.{ref_meaning, media_meaning}
use Rattle.meaning.specs.Text.{ref_meaning_text, reference_clock_text}
use Rattle.meaning.proofs.Told.{guarded_well}
use Rattle.meaning.proofs.Demand1.{ref_answered, media_answered}
use Rattle.meaning.proofs.Rows.{short, ref_plain, each_where}
use Rattle.rfc7273.specs.Manner.{published, only_in, quoted}
use Rattle.rfc7273.specs.Elsewhere.{alpha, token_char, base64_char, base64, alphanum, domainlabel, toplabel, hostname, host, port, hostport}
use Rattle.rfc7273.specs.Kinds.{Says, refused_with, RefKind, ref_said, ref_says, SourceKind, media_said, media_says}
use Rattle.rfc7273.specs.Grammar.{ptp_domain_dgts, ptp_domain, clksrc_of, mediaclk_of}
use Rattle.departures.specs.Departures.{takers, ref_kinds, ref_both, ref_rows, ref_ill_formed, text_of, written_both, ref_written, source_kinds}
use Rattle.departures.specs.Departures.{source_both, source_rows, source_ill_formed}
use Rattle.rfc7273.proofs.Laws.{not_so}
use Rattle.departures.proofs.Quick.{each, first, front, segments, quick_ref, ref_quick, quick_source, source_quick}

-- alternatives that are equal take the same, and pairs of equals are equal
takers_same : {K : Type 0} (p q : K → Rule) → ((k : K) → p k ≡ q k) → (s : List ℕ) (ks : List K) → takers p s ks ≡ takers q s ks
takers_same p q f s [] = refl
takers_same p q f s (k ∷ ks) = rw (f k, takers_same p q f s ks)

pair : {A B : Type 0} {a c : A} {b d : B} → a ≡ c → b ≡ d → ◌≡◌ {A = A × B} (a, b) (c, d)
pair e f = rw (e, f)

-- ts-refclk
abbrev ref_both_quick : List ℕ → List RefKind × Says RefKind
ref_both_quick s = (takers quick_ref s ref_kinds, ref_said s (clock_of bare s))

ref_agree : (s : List ℕ) → short s ≡ true → ref_both s ≡ ref_both_quick s
unfolding ref_says
ref_agree s h = pair (takers_same (clksrc_of published) quick_ref ref_quick s ref_kinds) (ap (ref_said s) (ref_plain s h))

pub ref_rows_lem : Each ref_both ref_rows
unfolding ref_meaning clock_of ntp_of host_of bracket_of address_of port_of ptp_of version_of server_of gmid_of domain_of bare_read extension_of before before_pair
    through_last same ends_in number_of digits_of all_digits value_from hex_digit eui64_of segments_of segment_of high_digit cut_at_each ip_address ipv6address
    ipv4address ls32 double_colon h16colon h16 dec_octet hexdig nothing range ◌or◌ ◌then◌ ◌then_many◌ times upto only_in quoted alpha token_char alphanum
    domainlabel toplabel hostname host port hostport ptp_domain_dgts ptp_domain each first front segments
ref_rows_lem = each_where ref_both ref_both_quick short ref_agree ref_rows refl refl

abbrev written_both_quick : List ℕ → List ℕ × List RefKind
written_both_quick s = let t = text_of s (clock_of bare s) in (t, takers quick_ref t ref_kinds)

written_agree : (s : List ℕ) → short s ≡ true → written_both s ≡ written_both_quick s
written_agree s h = rw (ref_plain s h) (pair refl (takers_same (clksrc_of published) quick_ref ref_quick _ ref_kinds))

pub ref_written_lem : Each written_both ref_written
unfolding reference_clock_text ref_meaning_text decimal digits_in bytes_at ref_meaning clock_of ntp_of host_of bracket_of address_of port_of ptp_of version_of
    server_of gmid_of domain_of bare_read extension_of before before_pair through_last same ends_in number_of digits_of all_digits value_from hex_digit eui64_of
    segments_of segment_of high_digit cut_at_each ip_address ipv6address ipv4address ls32 double_colon h16colon h16 dec_octet hexdig nothing range ◌or◌ ◌then◌
    ◌then_many◌ times upto only_in quoted alpha token_char alphanum domainlabel toplabel hostname host port hostport ptp_domain_dgts ptp_domain each first
    front segments
ref_written_lem = each_where written_both written_both_quick short written_agree ref_written refl refl

-- mediaclk
abbrev source_both_quick : List ℕ → List SourceKind × Says SourceKind
source_both_quick s = (takers quick_source s source_kinds, media_said s (source_of s))

source_agree : (s : List ℕ) → short s ≡ true → source_both s ≡ source_both_quick s
unfolding media_says read_media_clock_source media_clock_source_of
source_agree s h =
    let l = leb-true (length s) 1024 (and_left (leb (length s) 1024) (ascii s) h) in
    let w = utf8_all_ascii s (and_right (leb (length s) 1024) (ascii s) h) in
    pair (takers_same (mediaclk_of published) quick_source source_quick s source_kinds)
    (ap (λ a. media_said s (a)) (guarded_well s (source_of s) l w))

pub source_rows_lem : Each source_both source_rows
unfolding media_meaning source_of tagged_of id_of tag_of media_clock_of stream_of direct_of offset_of rate_of ratio_of denominator_of extension_of before same
    number_of digits_of all_digits value_from hex_digit eui64_of segments_of segment_of high_digit cut_at_each hexdig nothing range ◌or◌ ◌then◌ ◌then_many◌ times
    only_in quoted alpha token_char base64_char base64 each first front segments cut
source_rows_lem = each_where source_both source_both_quick short source_agree source_rows refl refl

-- texts that are not well-formed are refused by a law
abbrev ill : List ℕ → Bool
ill s = leb (length s) 1024 && not (utf8_octets s)

module _ (s : List ℕ) (h : ill s ≡ true) where
  ill_short : length s ≤ 1024
  ill_short = leb-true (length s) 1024 (and_left (leb (length s) 1024) _ h)

  ill_octets : utf8_octets s ≡ false
  ill_octets = not_so (utf8_octets s) (and_right (leb (length s) 1024) _ h)

  ref_ill : ref_says s ≡ refused_with 2
  unfolding ref_says
  ref_ill = let r = (ref_answered s).ill ill_short ill_octets in rw (r.is, r.number)

  media_ill : media_says s ≡ refused_with 2
  unfolding media_says
  media_ill = let r = (media_answered s).ill ill_short ill_octets in rw (r.is, r.number)

abbrev ref_ill_quick : List ℕ → List RefKind × Says RefKind
ref_ill_quick s = (takers quick_ref s ref_kinds, refused_with 2)

ref_ill_agree : (s : List ℕ) → ill s ≡ true → ref_both s ≡ ref_ill_quick s
ref_ill_agree s h =
    pair (takers_same (clksrc_of published) quick_ref ref_quick s ref_kinds) (ref_ill s h)

pub ref_ill_formed_lem : Each ref_both ref_ill_formed
unfolding utf8_char nothing range ◌or◌ ◌then◌ ◌then_many◌ times only_in quoted same token_char each first front segments
ref_ill_formed_lem = each_where ref_both ref_ill_quick ill ref_ill_agree ref_ill_formed refl refl

abbrev source_ill_quick : List ℕ → List SourceKind × Says SourceKind
source_ill_quick s = (takers quick_source s source_kinds, refused_with 2)

source_ill_agree : (s : List ℕ) → ill s ≡ true → source_both s ≡ source_ill_quick s
source_ill_agree s h =
    pair (takers_same (mediaclk_of published) quick_source source_quick s source_kinds) (media_ill s h)

pub source_ill_formed_lem : Each source_both source_ill_formed
unfolding utf8_char nothing range ◌or◌ ◌then◌ ◌then_many◌ times only_in quoted same token_char each first front segments
source_ill_formed_lem = each_where source_both source_ill_quick ill source_ill_agree source_ill_formed refl refl
