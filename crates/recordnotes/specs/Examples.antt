-- What the definitions of this crate say of some records.
use Rattle.std.specs.Prelude.{refl, [], ◌∷◌, true, false, Some, None}
use Rattle.text.specs.Word.{word}
use Rattle.text.specs.Place.{place}
use Rattle.text.specs.Example.{◌gives◌, Each}
use Rattle.number.specs.Decimal.{decimal, digits_in}
use Rattle.number.specs.Hex.{hex_capital, hex_capitals}
use Rattle.clock.specs.Records.{ntp, ptp, eui64, clock_source_ext}
use Rattle.mediarecord.specs.Records.{media_clock_source, media_clock_id, rate, direct, media_clock_ext}
use Rattle.clock.specs.declared.NtpServerAddr.TheVariants as server
use Rattle.clock.specs.declared.PtpVersion.TheVariants as version
use Rattle.clock.specs.declared.PtpDomain.TheVariants.{DomainName, DomainNumber}
use Rattle.clock.specs.declared.PtpServer.TheVariants as source
use Rattle.clock.specs.declared.PrivateSource.TheVariants as private
use Rattle.clock.specs.declared.ReferenceClock.TheVariants as clock
use Rattle.mediarecord.specs.declared.MediaClock.TheVariants as media
use Rattle.recordnotes.specs.Notation.{reference_clock_note, media_clock_source_note}

reference_clocks : Each reference_clock_note (
    clock.Ntp (ntp server.Traceable) gives word "ntp traceable"
    ∷ clock.Ntp (ntp (server.HostPort (place 4 8) None)) gives word "ntp 4+8 -"
    ∷ clock.Ntp (ntp (server.HostPort (place 5 3) (Some 65535))) gives word "ntp 5+3 65535"
    ∷ clock.Ptp (ptp version.Ieee1588_2002 source.Traceable) gives word "ptp 2002 traceable"
    ∷ clock.Ptp (ptp version.Ieee1588_2008 (source.GmidDomain (eui64 4154453008472067025) (Some (DomainNumber 0))))
    gives word "ptp 2008 39A794FFFE07CBD1 number 0"
    ∷ clock.Ptp (ptp version.Ieee8021As_2011 (source.GmidDomain (eui64 10) None)) gives word "ptp 2011 000000000000000A -"
    ∷ clock.Ptp (ptp (version.Ext (place 4 1)) (source.GmidDomain (eui64 0) (Some (DomainName (place 30 16)))))
    gives word "ptp 4+1 0000000000000000 name 30+16"
    ∷ clock.Gps gives word "gps"
    ∷ clock.Gal gives word "gal"
    ∷ clock.Glonass gives word "glonass"
    ∷ clock.Local gives word "local"
    ∷ clock.Private private.Standard gives word "private"
    ∷ clock.Private private.Traceable gives word "private traceable"
    ∷ clock.Ext (clock_source_ext (place 0 3) None) gives word "ext 0+3 -"
    ∷ clock.Ext (clock_source_ext (place 0 3) (Some (place 4 0))) gives word "ext 0+3 4+0"
    ∷ [])
unfolding reference_clock_note decimal digits_in hex_capitals hex_capital
reference_clocks = refl

media_clock_sources : Each media_clock_source_note (
    media_clock_source None media.Sender gives word "- sender"
    ∷ media_clock_source (Some (media_clock_id false (place 3 2))) (media.Direct (direct None None)) gives word "id 3+2 direct - -"
    ∷ media_clock_source (Some (media_clock_id true (place 7 1))) (media.Direct (direct (Some 0) (Some (rate 1000 1001))))
    gives word "src 7+1 direct 0 1000/1001"
    ∷ media_clock_source None (media.Ieee1722StreamId (eui64 4154453008472067025)) gives word "- stream 39A794FFFE07CBD1"
    ∷ media_clock_source None (media.Ext (media_clock_ext (place 0 1) (Some (place 2 5)))) gives word "- ext 0+1 2+5"
    ∷ [])
unfolding media_clock_source_note decimal digits_in hex_capitals hex_capital
media_clock_sources = refl
