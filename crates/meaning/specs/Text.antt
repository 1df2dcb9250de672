-- The text of a meaning: numbers plain, EUI-64 in capitals with two digits a segment, a host with a colon and a port in brackets.
use Rattle.std.specs.Prelude.{ℕ, List, [], ◌∷◌, ◌++◌, Bool, false, cond, ◌&&◌, not, ltb, length, Option, Some, None}
use Rattle.text.specs.Find.{before}
use Rattle.text.specs.Word.{word}
use Rattle.number.specs.Decimal.{decimal}
use Rattle.eui64.specs.Eui64.{eui64_text}
use Rattle.ipaddr.specs.Address.{ip_address}
use Rattle.clock.specs.declared.ReferenceClock.{ReferenceClock}
use Rattle.mediarecord.specs.declared.MediaClockSource.{MediaClockSource}
use Rattle.meaning.specs.Domain.{Spelling, bare}
use Rattle.meaning.specs.Meaning.{Version, ieee1588_2002, ieee1588_2008, ieee802_1as_2011, own_version, Domain, Server, gmid, traceable}
use Rattle.meaning.specs.Meaning.{RefMeaning, ntp_traceable, ntp_host, ptp, gps, gal, glonass, local, private_standard, private_traceable, ref_ext}
use Rattle.meaning.specs.Meaning.{ref_meaning, Ratio, ratio, Tag, plain_tag, src_tag, MediaMeaning, sender, direct, stream, media_ext}
use Rattle.meaning.specs.Meaning.{SourceMeaning, media_source, media_meaning}

-- "=" and a value, where there is one
abbrev pub value_text : Option (List ℕ) → List ℕ
value_text None = []
value_text (Some x) = 61 ∷ x

abbrev pub version_text : Version → List ℕ
version_text ieee1588_2002 = word "IEEE1588-2002"
version_text ieee1588_2008 = word "IEEE1588-2008"
version_text ieee802_1as_2011 = word "IEEE802.1AS-2011"
version_text (own_version x) = x

abbrev pub has_colon : List ℕ → Bool
has_colon h = ltb (before 58 h) (length h)

-- a host with a colon stands in brackets before a port
abbrev pub host_text : List ℕ → Option ℕ → List ℕ
host_text h None = h
host_text h (Some n) = cond (has_colon h) (91 ∷ (h ++ 93 ∷ 58 ∷ decimal n)) (h ++ 58 ∷ decimal n)

module _ (spelling : Spelling) where
  abbrev pub domain_text : Option Domain → List ℕ
  domain_text None = []
  domain_text (Some d) = 58 ∷ spelling.text d

  abbrev pub server_text : Server → List ℕ
  server_text (gmid g d) = eui64_text g ++ domain_text d
  server_text traceable = word "traceable"

  unfoldable pub ref_meaning_text : RefMeaning → List ℕ
  ref_meaning_text ntp_traceable = word "ntp=/traceable/"
  ref_meaning_text (ntp_host h port) = word "ntp=" ++ host_text h port
  ref_meaning_text (ptp v s) = word "ptp=" ++ (version_text v ++ 58 ∷ server_text s)
  ref_meaning_text gps = word "gps"
  ref_meaning_text gal = word "gal"
  ref_meaning_text glonass = word "glonass"
  ref_meaning_text local = word "local"
  ref_meaning_text private_standard = word "private"
  ref_meaning_text private_traceable = word "private:traceable"
  ref_meaning_text (ref_ext n x) = n ++ value_text x

-- the text of a record over its value
unfoldable pub reference_clock_text : List ℕ → ReferenceClock → List ℕ
reference_clock_text v c = ref_meaning_text bare (ref_meaning v c)

-- mediaclk
abbrev pub tag_text : Tag → List ℕ
tag_text (plain_tag x) = x
tag_text (src_tag x) = word "src:" ++ x

abbrev pub id_text : Option Tag → List ℕ
id_text None = []
id_text (Some t) = word "id=" ++ (tag_text t ++ 32 ∷ [])

abbrev pub offset_text : Option ℕ → List ℕ
offset_text None = []
offset_text (Some n) = 61 ∷ decimal n

abbrev pub rate_text : Option Ratio → List ℕ
rate_text None = []
rate_text (Some (ratio n d)) = word " rate=" ++ (decimal n ++ 47 ∷ decimal d)

abbrev pub media_text : MediaMeaning → List ℕ
media_text sender = word "sender"
media_text (direct o r) = word "direct" ++ (offset_text o ++ rate_text r)
media_text (stream g) = word "IEEE1722=" ++ eui64_text g
media_text (media_ext n x) = n ++ value_text x

unfoldable pub source_meaning_text : SourceMeaning → List ℕ
source_meaning_text (media_source i c) = id_text i ++ media_text c

unfoldable pub media_clock_source_text : List ℕ → MediaClockSource → List ℕ
media_clock_source_text v m = source_meaning_text (media_meaning v m)

-- the one class whose written text is refused: an NTP host that holds a colon, is no IP address and has a port
unfoldable pub in_class : RefMeaning → Bool
in_class (ntp_host h (Some n)) = has_colon h && not (ip_address h)
in_class (ntp_host h None) = false
in_class ntp_traceable = false
in_class (ptp v s) = false
in_class gps = false
in_class gal = false
in_class glonass = false
in_class local = false
in_class private_standard = false
in_class private_traceable = false
in_class (ref_ext n x) = false
