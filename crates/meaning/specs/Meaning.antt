-- What a record means over the value that it points into: each place is replaced by the bytes there. Two records are equal exactly when they
-- mean the same: kinds and numbers are equal, and the bytes at matching places are; absent differs from present and empty.
use Rattle.std.specs.Prelude.{ℕ, List, cond, Option, Some, None}
use Rattle.text.specs.Place.{bytes_at}
use Rattle.clock.specs.declared.NtpServerAddr.{NtpServerAddr}
use Rattle.clock.specs.declared.NtpServerAddr.TheVariants as server
use Rattle.clock.specs.declared.PtpVersion.{PtpVersion}
use Rattle.clock.specs.declared.PtpVersion.TheVariants as version
use Rattle.clock.specs.declared.PtpDomain.{PtpDomain}
use Rattle.clock.specs.declared.PtpDomain.TheVariants.{DomainName, DomainNumber}
use Rattle.clock.specs.declared.PtpServer.{PtpServer}
use Rattle.clock.specs.declared.PtpServer.TheVariants as source
use Rattle.clock.specs.declared.PrivateSource.{PrivateSource}
use Rattle.clock.specs.declared.PrivateSource.TheVariants as private
use Rattle.clock.specs.declared.ReferenceClock.{ReferenceClock}
use Rattle.clock.specs.declared.ReferenceClock.TheVariants as clock
use Rattle.mediarecord.specs.declared.MediaClock.{MediaClock}
use Rattle.mediarecord.specs.declared.MediaClock.TheVariants as media
use Rattle.mediarecord.specs.declared.MediaClockSource.{MediaClockSource}
use Rattle.mediarecord.specs.declared.MediaClockId.{MediaClockId}
use Rattle.text.specs.declared.Place.{Place}
use Rattle.mediarecord.specs.declared.Rate.{Rate}

-- ts-refclk
pub data Version : Type 0 where
  ieee1588_2002 ieee1588_2008 ieee802_1as_2011 : Version
  own_version : List ℕ → Version

pub data Domain : Type 0 where
  name : List ℕ → Domain
  number : ℕ → Domain

pub data Server : Type 0 where
  gmid : ℕ → Option Domain → Server
  traceable : Server

pub data RefMeaning : Type 0 where
  ntp_traceable : RefMeaning
  ntp_host : List ℕ → Option ℕ → RefMeaning
  ptp : Version → Server → RefMeaning
  gps gal glonass local : RefMeaning
  private_standard private_traceable : RefMeaning
  ref_ext : List ℕ → Option (List ℕ) → RefMeaning

module _ (v : List ℕ) where
  abbrev pub version_means : PtpVersion → Version
  version_means version.Ieee1588_2002 = ieee1588_2002
  version_means version.Ieee1588_2008 = ieee1588_2008
  version_means version.Ieee8021As_2011 = ieee802_1as_2011
  version_means (version.Ext p) = own_version (bytes_at p v)

  abbrev pub domain_means : PtpDomain → Domain
  domain_means (DomainName p) = name (bytes_at p v)
  domain_means (DomainNumber n) = number n

  abbrev pub opt_domain_means : Option PtpDomain → Option Domain
  opt_domain_means None = None
  opt_domain_means (Some d) = Some (domain_means d)

  abbrev pub server_means : PtpServer → Server
  server_means (source.GmidDomain g d) = gmid g.id (opt_domain_means d)
  server_means source.Traceable = traceable

  abbrev pub port_means : Option ℕ → Option ℕ
  port_means None = None
  port_means (Some n) = Some n

  abbrev pub ntp_means : NtpServerAddr → RefMeaning
  ntp_means (server.HostPort p port) = ntp_host (bytes_at p v) (port_means port)
  ntp_means server.Traceable = ntp_traceable

  abbrev pub value_means : Option Place → Option (List ℕ)
  value_means None = None
  value_means (Some p) = Some (bytes_at p v)

  abbrev pub private_means : PrivateSource → RefMeaning
  private_means private.Standard = private_standard
  private_means private.Traceable = private_traceable

  unfoldable pub ref_meaning : ReferenceClock → RefMeaning
  ref_meaning (clock.Ntp n) = ntp_means n.server
  ref_meaning (clock.Ptp p) = ptp (version_means p.version) (server_means p.server)
  ref_meaning clock.Gps = gps
  ref_meaning clock.Gal = gal
  ref_meaning clock.Glonass = glonass
  ref_meaning clock.Local = local
  ref_meaning (clock.Private p) = private_means p
  ref_meaning (clock.Ext e) = ref_ext (bytes_at e.name v) (value_means e.value)

-- mediaclk
-- a numerator and a denominator, not reduced
pub data Ratio : Type 0 where
  ratio : ℕ → ℕ → Ratio

pub data Tag : Type 0 where
  plain_tag src_tag : List ℕ → Tag

pub data MediaMeaning : Type 0 where
  sender : MediaMeaning
  direct : Option ℕ → Option Ratio → MediaMeaning
  stream : ℕ → MediaMeaning
  media_ext : List ℕ → Option (List ℕ) → MediaMeaning

pub data SourceMeaning : Type 0 where
  media_source : Option Tag → MediaMeaning → SourceMeaning

abbrev pub offset_means : Option ℕ → Option ℕ
offset_means None = None
offset_means (Some n) = Some n

abbrev pub rate_means : Option Rate → Option Ratio
rate_means None = None
rate_means (Some r) = Some (ratio r.numerator r.denominator)

module _ (v : List ℕ) where
  abbrev pub id_means : Option MediaClockId → Option Tag
  id_means None = None
  id_means (Some d) = Some (cond d.src (src_tag (bytes_at d.tag v)) (plain_tag (bytes_at d.tag v)))

  abbrev pub media_means : MediaClock → MediaMeaning
  media_means media.Sender = sender
  media_means (media.Direct d) = direct (offset_means d.offset) (rate_means d.rate)
  media_means (media.Ieee1722StreamId g) = stream g.id
  media_means (media.Ext e) = media_ext (bytes_at e.name v) (value_means v e.value)

  unfoldable pub media_meaning : MediaClockSource → SourceMeaning
  media_meaning m = media_source (id_means m.id) (media_means m.clock)
