-- A record as it is noted in a line: its kinds and numbers, and its places as START+LEN in the value read; "-" for what is absent.
use Rattle.std.specs.Prelude.{ℕ, List, ◌++◌, cond, Option, Some, None}
use Rattle.text.specs.Word.{word}
use Rattle.text.specs.declared.Place.{Place}
use Rattle.number.specs.Decimal.{decimal}
use Rattle.number.specs.Hex.{hex_capitals}
use Rattle.clock.specs.declared.NtpServerAddr.{NtpServerAddr}
use Rattle.clock.specs.declared.NtpServerAddr.TheVariants as server
use Rattle.clock.specs.declared.PtpVersion.{PtpVersion}
use Rattle.clock.specs.declared.PtpVersion.TheVariants as version
use Rattle.clock.specs.declared.PtpDomain.{PtpDomain}
use Rattle.clock.specs.declared.PtpDomain.TheVariants.{DomainName, DomainNumber}
use Rattle.clock.specs.declared.PtpServer.{PtpServer}
use Rattle.clock.specs.declared.PtpServer.TheVariants as source
use Rattle.clock.specs.declared.PrivateSource.{PrivateSource}
use Rattle.clock.specs.declared.PrivateSource.TheVariants as private
use Rattle.clock.specs.declared.ReferenceClock.{ReferenceClock}
use Rattle.clock.specs.declared.ReferenceClock.TheVariants as clock
use Rattle.mediarecord.specs.declared.MediaClock.{MediaClock}
use Rattle.mediarecord.specs.declared.MediaClock.TheVariants as media
use Rattle.mediarecord.specs.declared.MediaClockSource.{MediaClockSource}
use Rattle.mediarecord.specs.declared.MediaClockId.{MediaClockId}
use Rattle.mediarecord.specs.declared.Rate.{Rate}

abbrev pub place_note : Place → List ℕ
place_note p = decimal p.start ++ word "+" ++ decimal p.len

-- an EUI-64: sixteen capital digits of base 16
abbrev pub eui64_note : ℕ → List ℕ
eui64_note id = hex_capitals 16 id

abbrev pub value_note : Option Place → List ℕ
value_note None = word "-"
value_note (Some p) = place_note p

abbrev pub extension_note : Place → Option Place → List ℕ
extension_note name value = word "ext " ++ place_note name ++ word " " ++ value_note value

-- ts-refclk
abbrev pub port_note : Option ℕ → List ℕ
port_note None = word "-"
port_note (Some n) = decimal n

abbrev pub ntp_note : NtpServerAddr → List ℕ
ntp_note server.Traceable = word "ntp traceable"
ntp_note (server.HostPort host port) = word "ntp " ++ place_note host ++ word " " ++ port_note port

abbrev pub version_note : PtpVersion → List ℕ
version_note version.Ieee1588_2002 = word "2002"
version_note version.Ieee1588_2008 = word "2008"
version_note version.Ieee8021As_2011 = word "2011"
version_note (version.Ext p) = place_note p

abbrev pub domain_note : PtpDomain → List ℕ
domain_note (DomainName p) = word "name " ++ place_note p
domain_note (DomainNumber n) = word "number " ++ decimal n

abbrev pub opt_domain_note : Option PtpDomain → List ℕ
opt_domain_note None = word "-"
opt_domain_note (Some d) = domain_note d

abbrev pub server_note : PtpServer → List ℕ
server_note source.Traceable = word "traceable"
server_note (source.GmidDomain gmid domain) = eui64_note gmid.id ++ word " " ++ opt_domain_note domain

abbrev pub ptp_note : PtpVersion → PtpServer → List ℕ
ptp_note v s = word "ptp " ++ version_note v ++ word " " ++ server_note s

abbrev pub private_note : PrivateSource → List ℕ
private_note private.Standard = word "private"
private_note private.Traceable = word "private traceable"

unfoldable pub reference_clock_note : ReferenceClock → List ℕ
reference_clock_note (clock.Ntp n) = ntp_note n.server
reference_clock_note (clock.Ptp p) = ptp_note p.version p.server
reference_clock_note clock.Gps = word "gps"
reference_clock_note clock.Gal = word "gal"
reference_clock_note clock.Glonass = word "glonass"
reference_clock_note clock.Local = word "local"
reference_clock_note (clock.Private p) = private_note p
reference_clock_note (clock.Ext e) = extension_note e.name e.value

-- mediaclk
abbrev pub id_note : Option MediaClockId → List ℕ
id_note None = word "-"
id_note (Some d) = cond d.src (word "src ") (word "id ") ++ place_note d.tag

abbrev pub offset_note : Option ℕ → List ℕ
offset_note None = word "-"
offset_note (Some n) = decimal n

abbrev pub rate_note : Option Rate → List ℕ
rate_note None = word "-"
rate_note (Some r) = decimal r.numerator ++ word "/" ++ decimal r.denominator

abbrev pub direct_note : Option ℕ → Option Rate → List ℕ
direct_note offset rate = word "direct " ++ offset_note offset ++ word " " ++ rate_note rate

abbrev pub media_note : MediaClock → List ℕ
media_note media.Sender = word "sender"
media_note (media.Direct d) = direct_note d.offset d.rate
media_note (media.Ieee1722StreamId g) = word "stream " ++ eui64_note g.id
media_note (media.Ext e) = extension_note e.name e.value

unfoldable pub media_clock_source_note : MediaClockSource → List ℕ
media_clock_source_note m = id_note m.id ++ word " " ++ media_note m.clock
