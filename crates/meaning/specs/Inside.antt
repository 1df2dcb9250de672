-- Whether every place of a record lies inside the value that it points into.
use Rattle.std.specs.Prelude.{ℕ, ◌+◌, List, Bool, true, ◌&&◌, leb, length, Option, Some, None}
use Rattle.text.specs.declared.Place.{Place}
use Rattle.clock.specs.declared.NtpServerAddr.{NtpServerAddr}
use Rattle.clock.specs.declared.NtpServerAddr.TheVariants as server
use Rattle.clock.specs.declared.PtpVersion.{PtpVersion}
use Rattle.clock.specs.declared.PtpVersion.TheVariants as version
use Rattle.clock.specs.declared.PtpDomain.{PtpDomain}
use Rattle.clock.specs.declared.PtpDomain.TheVariants.{DomainName, DomainNumber}
use Rattle.clock.specs.declared.PtpServer.{PtpServer}
use Rattle.clock.specs.declared.PtpServer.TheVariants as source
use Rattle.clock.specs.declared.ReferenceClock.{ReferenceClock}
use Rattle.clock.specs.declared.ReferenceClock.TheVariants as clock
use Rattle.mediarecord.specs.declared.MediaClock.{MediaClock}
use Rattle.mediarecord.specs.declared.MediaClock.TheVariants as media
use Rattle.mediarecord.specs.declared.MediaClockSource.{MediaClockSource}
use Rattle.mediarecord.specs.declared.MediaClockId.{MediaClockId}

module _ (v : List ℕ) where
  abbrev pub inside : Place → Bool
  inside p = leb (p.start + p.len) (length v)

  abbrev pub version_inside : PtpVersion → Bool
  version_inside version.Ieee1588_2002 = true
  version_inside version.Ieee1588_2008 = true
  version_inside version.Ieee8021As_2011 = true
  version_inside (version.Ext p) = inside p

  abbrev pub domain_inside : PtpDomain → Bool
  domain_inside (DomainName p) = inside p
  domain_inside (DomainNumber n) = true

  abbrev pub opt_domain_inside : Option PtpDomain → Bool
  opt_domain_inside None = true
  opt_domain_inside (Some d) = domain_inside d

  abbrev pub server_inside : PtpServer → Bool
  server_inside (source.GmidDomain g d) = opt_domain_inside d
  server_inside source.Traceable = true

  abbrev pub ntp_inside : NtpServerAddr → Bool
  ntp_inside (server.HostPort p port) = inside p
  ntp_inside server.Traceable = true

  abbrev pub value_inside : Option Place → Bool
  value_inside None = true
  value_inside (Some p) = inside p

  unfoldable pub reference_clock_inside : ReferenceClock → Bool
  reference_clock_inside (clock.Ntp n) = ntp_inside n.server
  reference_clock_inside (clock.Ptp p) = version_inside p.version && server_inside p.server
  reference_clock_inside clock.Gps = true
  reference_clock_inside clock.Gal = true
  reference_clock_inside clock.Glonass = true
  reference_clock_inside clock.Local = true
  reference_clock_inside (clock.Private p) = true
  reference_clock_inside (clock.Ext e) = inside e.name && value_inside e.value

  abbrev pub id_inside : Option MediaClockId → Bool
  id_inside None = true
  id_inside (Some d) = inside d.tag

  abbrev pub media_inside : MediaClock → Bool
  media_inside media.Sender = true
  media_inside (media.Direct d) = true
  media_inside (media.Ieee1722StreamId g) = true
  media_inside (media.Ext e) = inside e.name && value_inside e.value

  unfoldable pub media_clock_source_inside : MediaClockSource → Bool
  media_clock_source_inside m = id_inside m.id && media_inside m.clock
