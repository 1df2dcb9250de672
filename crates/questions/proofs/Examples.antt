-- The examples hold: their values are short and of bytes below 128, so that only the rules are computed. Assumes nothing.
use Prim.Native.Nat.{ℕ}
use mathlib.Core.Path.{◌≡◌, refl}
use mathlib.Core.List.{List}
use mathlib.Core.Bool.{Bool, true, ◌&&◌}
use Rattle.text.specs.Find.{before, before_pair, through_last}
use Rattle.text.specs.Word.{same, ends_in}
use Rattle.text.specs.Place.{bytes_at}
use Rattle.text.specs.declared.Place.{Place}
use Rattle.text.specs.Example.{Each}
use Rattle.text.proofs.Bools.{and_left, and_right}
use Rattle.abnf.specs.Rule.{nothing, range, ◌or◌, ◌then◌, times, upto}
use Rattle.number.specs.Decimal.{all_digits, value_from, digits_of, number_of}
use Rattle.number.specs.Hex.{hex_digit}
use Rattle.eui64.specs.Eui64.{cut_at_each, high_digit, segment_of, segments_of, eui64_of}
use Rattle.ipaddr.specs.Address.{hexdig, dec_octet, ipv4address, h16, h16colon, double_colon, ls32, ipv6address, ip_address}
use Rattle.meaning.specs.Answer.{extension_of}
use Rattle.meaning.specs.Domain.{bare, bare_read}
use Rattle.meaning.specs.ReferenceClock.{port_of, address_of, bracket_of, host_of, ntp_of, version_of, gmid_of, domain_of, server_of, ptp_of, clock_of}
use Rattle.meaning.specs.Meaning.{ref_meaning}
use Rattle.meaning.proofs.Rows.{short, ref_plain, each_where}
use Rattle.equal.specs.Private.Flat.{same_numbers, same_behind, alike_flat}
use Rattle.equal.specs.Private.Test.{alike}
use Rattle.ipaddr.specs.Number.{octets_from, octets_of, paired, groups_from, side_groups, groups_of, ip_address_of}
use Rattle.hosts.specs.Server.{lower, folded, one_server}
use Rattle.equal.specs.Alike.{hosts_alike}
use Rattle.questions.specs.Private.Test.{both_alike, same_clock}
use Rattle.questions.specs.Governing.{gmid_place, name_place, read_place, clock_place}
use Rattle.questions.specs.Examples.{of_pair, pairs, places}

abbrev plain_same : List ℕ → List ℕ → Bool
plain_same v w = both_alike v (clock_of bare v) w (clock_of bare w)

abbrev plain_place : List ℕ → Place
plain_place v = read_place v (clock_of bare v)

abbrev short_pair : List ℕ × List ℕ → Bool
short_pair p = short p.0 && short p.1

same_plain : (p : List ℕ × List ℕ) → short_pair p ≡ true → of_pair same_clock p ≡ of_pair plain_same p
unfolding same_clock
same_plain p h =
    let v = p.0 in
    let w = p.1 in
    rw (ref_plain v (and_left (short v) (short w) h), ref_plain w (and_right (short v) (short w) h))

place_plain : (v : List ℕ) → short v ≡ true → clock_place v ≡ plain_place v
unfolding clock_place
place_plain v h = rw (ref_plain v h)

pub pairs_hold : Each (of_pair same_clock) pairs
unfolding clock_of ntp_of host_of bracket_of address_of port_of ptp_of version_of server_of gmid_of domain_of bare_read extension_of ref_meaning before before_pair
    through_last same ends_in bytes_at number_of digits_of all_digits value_from hex_digit eui64_of segments_of segment_of high_digit cut_at_each ip_address
    ipv6address ipv4address ls32 double_colon h16colon h16 dec_octet hexdig nothing range ◌or◌ ◌then◌ times upto same_numbers same_behind
    alike_flat alike hosts_alike one_server folded lower ip_address_of octets_from octets_of paired groups_from side_groups groups_of
pairs_hold = each_where (of_pair same_clock) (of_pair plain_same) short_pair same_plain pairs refl refl

pub places_hold : Each clock_place places
unfolding clock_of ntp_of host_of bracket_of address_of port_of ptp_of version_of server_of gmid_of domain_of bare_read extension_of before before_pair through_last
    same ends_in number_of digits_of all_digits value_from hex_digit eui64_of segments_of segment_of high_digit cut_at_each ip_address ipv6address ipv4address ls32
    double_colon h16colon h16 dec_octet hexdig nothing range ◌or◌ ◌then◌ times upto gmid_place name_place
places_hold = each_where clock_place plain_place short place_plain places refl refl
