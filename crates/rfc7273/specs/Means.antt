-- What a text of the RFC's grammar means, narrowed to what reading takes: a family for each rule, with one constructor for each alternative, which
-- gives the text and the parts that it names. A number is that of its digits. No definition of reading is used here.
use Rattle.std.specs.Prelude.{ℕ, ◌+◌, ◌*◌, ◌≡◌, true, cond, ◌||◌, not, List, [], ◌∷◌, ◌++◌, eqb, Option, Some, None}
use Rattle.text.specs.Word.{word, same}
use Rattle.abnf.specs.Rule.{Rule}
use Rattle.number.specs.Decimal.{value_from}
use Rattle.number.specs.Hex.{hex_digit}
use Rattle.ipaddr.specs.Address.{ipv4address, ipv6address}
use Rattle.meaning.specs.Meaning.{Version, ieee1588_2002, ieee1588_2008, ieee802_1as_2011, own_version, Server, gmid, traceable, RefMeaning}
use Rattle.meaning.specs.Meaning.{ntp_traceable, ntp_host, ptp, gps, gal, glonass, local, private_standard, private_traceable, ref_ext, Ratio, ratio, Tag}
use Rattle.meaning.specs.Meaning.{plain_tag, src_tag, MediaMeaning, sender, direct, stream, media_ext, SourceMeaning, media_source}
use Rattle.rfc7273.specs.Manner.{narrowed}
use Rattle.rfc7273.specs.Elsewhere.{token, hostname, port}
use Rattle.rfc7273.specs.Grammar.{eui64, left_to_ref_ext, left_to_media_ext, left_to_no_id, ext_bytes, offset, integer, tag}

-- host = hostname / IPv4address / "[" IPv6address "]": the first two are the host themselves, and of the third it is the address inside
pub data HostText : List ℕ → List ℕ → Type 0 where
  hostname_text : (s : List ℕ) → hostname s ≡ true → HostText s s
  ipv4_text : (s : List ℕ) → ipv4address s ≡ true → HostText s s
  ipv6_text : (s : List ℕ) → ipv6address s ≡ true → HostText (word "[" ++ (s ++ word "]")) s

-- hostport = host [ ":" port ]: a host alone has no port
pub data HostportText : List ℕ → List ℕ → Option ℕ → Type 0 where
  without_port : (s h : List ℕ) → HostText s h → HostportText s h None
  with_port : (s h p : List ℕ) → HostText s h → port narrowed p ≡ true → HostportText (s ++ (word ":" ++ p)) h (Some (value_from 0 p))

-- the number of an EUI64: that of its digits of base 16, the dashes passed over, behind digits of the value n
unfoldable pub hex_value_from : ℕ → List ℕ → ℕ
hex_value_from n [] = n
hex_value_from n (b ∷ s) = hex_value_from (cond (eqb b 45) n (n * 16 + hex_digit b)) s

-- ptp-version: one of the three that the RFC names, or a version of its own, which is any other token
abbrev pub other_version : Rule
other_version s = not (same s (word "IEEE1588-2002") || (same s (word "IEEE1588-2008") || same s (word "IEEE802.1AS-2011")))

pub data VersionText : List ℕ → Version → Type 0 where
  text_2002 : VersionText (word "IEEE1588-2002") ieee1588_2002
  text_2008 : VersionText (word "IEEE1588-2008") ieee1588_2008
  text_2011 : VersionText (word "IEEE802.1AS-2011") ieee802_1as_2011
  token_text : (s : List ℕ) → token s ≡ true → other_version s ≡ true → VersionText s (own_version s)

-- ptp-server: a GMID, narrowed to no domain behind it, or "traceable"
pub data ServerText : List ℕ → Server → Type 0 where
  gmid_text : (g : List ℕ) → eui64 g ≡ true → ServerText g (gmid (hex_value_from 0 g) None)
  traceable_text : ServerText (word "traceable") traceable

-- token [ "=" byte-string ], an extension of either attribute: its name, and where there is one its value
pub data ExtText : List ℕ → List ℕ → Option (List ℕ) → Type 0 where
  without_value : (n : List ℕ) → token n ≡ true → ExtText n n None
  with_value : (n x : List ℕ) → token n ≡ true → ext_bytes narrowed x ≡ true → ExtText (n ++ (word "=" ++ x)) n (Some x)

-- clksrc = ntp / ptp / gps / gal / glonass / local / private / clksrc-ext: an extension is what the rules before it leave
pub data RefText : List ℕ → RefMeaning → Type 0 where
  ntp_text_lem : (t h : List ℕ) (p : Option ℕ) → HostportText t h p → RefText (word "ntp=" ++ t) (ntp_host h p)
  ntp_traceable_text : RefText (word "ntp=/traceable/") ntp_traceable
  ptp_text : (v s : List ℕ) (a : Version) (b : Server) → VersionText v a → ServerText s b → RefText (word "ptp=" ++ (v ++ (word ":" ++ s))) (ptp a b)
  gps_text : RefText (word "gps") gps
  gal_text : RefText (word "gal") gal
  glonass_text : RefText (word "glonass") glonass
  local_text : RefText (word "local") local
  private_text : RefText (word "private") private_standard
  private_traceable_text : RefText (word "private:traceable") private_traceable
  ref_ext_text : (s n : List ℕ) (x : Option (List ℕ)) → ExtText s n x → left_to_ref_ext s ≡ true → RefText s (ref_ext n x)

-- [ "=" 1*DIGIT ], the offset of a direct clock
pub data OffsetText : List ℕ → Option ℕ → Type 0 where
  without_offset : OffsetText [] None
  with_offset_lem : (d : List ℕ) → offset narrowed d ≡ true → OffsetText (word "=" ++ d) (Some (value_from 0 d))

-- [ SP "rate=" integer "/" integer ], its rate: a numerator over a denominator
pub data RateText : List ℕ → Option Ratio → Type 0 where
  without_rate : RateText [] None
  with_rate_lem : (n d : List ℕ) → integer narrowed n ≡ true → integer narrowed d ≡ true
      → RateText (word " rate=" ++ (n ++ (word "/" ++ d))) (Some (ratio (value_from 0 n) (value_from 0 d)))

-- mediaclock = sender / direct / "IEEE1722=" EUI64 / token [ "=" byte-string ]: an extension is what the rules before it leave
pub data MediaText : List ℕ → MediaMeaning → Type 0 where
  sender_text : MediaText (word "sender") sender
  direct_text : (o r : List ℕ) (a : Option ℕ) (b : Option Ratio) → OffsetText o a → RateText r b → MediaText (word "direct" ++ (o ++ r)) (direct a b)
  stream_text : (g : List ℕ) → eui64 g ≡ true → MediaText (word "IEEE1722=" ++ g) (stream (hex_value_from 0 g))
  media_ext_text : (s n : List ℕ) (x : Option (List ℕ)) → ExtText s n x → left_to_media_ext s ≡ true → MediaText s (media_ext n x)

-- [ "src:" ] base64, the tag of an id
pub data TagText : List ℕ → Tag → Type 0 where
  plain_text : (t : List ℕ) → tag narrowed t ≡ true → TagText t (plain_tag t)
  src_text : (t : List ℕ) → tag narrowed t ≡ true → TagText (word "src:" ++ t) (src_tag t)

-- mediaclk = [ "id=" [ "src:" ] base64 SP ] mediaclock
pub data SourceText : List ℕ → SourceMeaning → Type 0 where
  untagged_text : (s : List ℕ) (m : MediaMeaning) → MediaText s m → left_to_no_id s ≡ true → SourceText s (media_source None m)
  tagged_text : (t s : List ℕ) (a : Tag) (m : MediaMeaning) → TagText t a → MediaText s m
      → SourceText (word "id=" ++ (t ++ (word " " ++ s))) (media_source (Some a) m)
