-- What naming one server says of some hosts.
use Rattle.std.specs.Prelude.{ℕ, refl, List, [], ◌∷◌, true, false}
use Rattle.text.specs.Find.{before_pair}
use Rattle.text.specs.Word.{word, same}
use Rattle.text.specs.Example.{◌gives◌, Each}
use Rattle.number.specs.Hex.{hex_digit}
use Rattle.abnf.specs.Rule.{nothing, range, ◌or◌, ◌then◌, times, upto}
use Rattle.ipaddr.specs.Address.{hexdig, dec_octet, ipv4address, h16, h16colon, double_colon, ls32, ipv6address}
use Rattle.ipaddr.specs.Number.{octets_from, octets_of, paired, groups_from, side_groups, groups_of, ip_address_of}
use Rattle.hosts.specs.Server.{lower, folded, one_server}

-- letters of ASCII alone, and no mark beside them; addresses however they are spelled, and families apart, also where octets and groups are the same
servers : Each (λ (p : List ℕ × List ℕ). one_server p.0 p.1) (
    (word "NTP.local", word "ntp.LOCAL") gives true
    ∷ (word "ntp.local", word "ntp.local.") gives false
    ∷ (word "a[", word "a{") gives false
    ∷ (word "a@", word "a`") gives false
    ∷ (0xC3 ∷ 0x89 ∷ [], 0xC3 ∷ 0xA9 ∷ []) gives false
    ∷ (word "::A", word "::00a") gives true
    ∷ (word "::1.2.3.4", word "::102:304") gives true
    ∷ (word "1.2.3.4", word "::102:304") gives false
    ∷ (word "1.2.3.4", word "1:2:3:4::") gives false
    ∷ (word "1.2.3.4", word "01.2.3.4") gives false
    ∷ [])
unfolding one_server folded lower ip_address_of octets_from octets_of paired groups_from side_groups groups_of ipv6address ipv4address ls32 double_colon h16colon
    h16 dec_octet hexdig nothing range ◌or◌ ◌then◌ times upto hex_digit before_pair same
servers = refl
