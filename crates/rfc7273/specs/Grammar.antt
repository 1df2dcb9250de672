-- RFC 7273, the attributes ts-refclk and mediaclk. Above each definition stands the rule's own line; `only` marks where reading is stricter.
-- The rules were set down from knowledge of the RFC, whose text was not at hand: where they differ from the published RFC, it is right.
use Prim.Native.String.{String}
use Rattle.std.specs.Prelude.{◌||◌, not}
use Rattle.text.specs.Word.{word, same, starts}
use Rattle.abnf.specs.Rule.{Rule, nothing, range, letter, ◌or◌, ◌then◌, ◌then_many◌, maybe, times, upto, one_or_more}
use Rattle.utf8.specs.Utf8.{utf8_octets}
use Rattle.ipaddr.specs.Address.{digit, hexdig}
use Rattle.rfc7273.specs.Manner.{Manner, only_in, quoted, up_to, not_empty}
use Rattle.rfc7273.specs.Elsewhere.{sp, pos_digit, token, byte_string, base64, hostport}
use Rattle.rfc7273.specs.Kinds as kind
use Rattle.rfc7273.specs.Kinds.{RefKind, MediaKind, SourceKind, ◌with_id◌}

-- EUI64 = 7( 2HEXDIG "-" ) 2HEXDIG
unfoldable pub eui64 : Rule
eui64 = times 7 (times 2 hexdig then letter "-") then times 2 hexdig

-- ptp-domain-dgts = DIGIT / POS-DIGIT DIGIT / "10" DIGIT / "11" DIGIT / "12" %x30-37
unfoldable pub ptp_domain_dgts : Rule
ptp_domain_dgts =
    digit or
    (pos_digit then digit) or
    (letter "1" then letter "0" then digit) or
    (letter "1" then letter "1" then digit) or
    (letter "1" then letter "2" then range 0x30 0x37)

-- which texts the rules that stand before an extension's leave to it
abbrev pub left_to_ref_ext : Rule
left_to_ref_ext s =
    not (starts (word "ntp=") s || (starts (word "ptp=") s ||
    (same s (word "gps") || (same s (word "gal") || (same s (word "glonass") || (same s (word "local") || same s (word "private")))))))

abbrev pub left_to_media_ext : Rule
left_to_media_ext s = not (same s (word "sender") || (starts (word "direct") s || starts (word "IEEE1722=") s))

-- and those that do not begin as an id does
abbrev pub left_to_no_id : Rule
left_to_no_id s = not (starts (word "id=") s)

module _ (m : Manner) where
  infix 50 ◌only◌
  abbrev ◌only◌ : Rule → Rule → Rule
  ◌only◌ p q = only_in m p q

  abbrev text : String → Rule
  text w = quoted m w

  -- ntp = "ntp=" ( hostport / "/traceable/" )
  unfoldable pub ntp : Rule
  ntp = text "ntp=" then (hostport m or text "/traceable/")

  -- ptp-version = "IEEE1588-2002" / "IEEE1588-2008" / "IEEE802.1AS-2011" / token
  unfoldable pub ptp_version : Rule
  ptp_version = text "IEEE1588-2002" or text "IEEE1588-2008" or text "IEEE802.1AS-2011" or token

  -- ptp-domain = "domain-name=" 1*16( %x21-7E ) / "domain-nmbr=" ptp-domain-dgts
  unfoldable pub ptp_domain : Rule
  ptp_domain = (text "domain-name=" then range 0x21 0x7E then upto 15 (range 0x21 0x7E)) or (text "domain-nmbr=" then ptp_domain_dgts)

  -- ptp-server = ptp-gmid [ ":" ptp-domain ] / "traceable", narrowed to no domain
  unfoldable pub ptp_server : Rule
  ptp_server = (eui64 then maybe (letter ":" then ptp_domain) only nothing) or text "traceable"

  -- ptp = "ptp=" ptp-version ":" ptp-server
  unfoldable pub ptp : Rule
  ptp = text "ptp=" then ptp_version then letter ":" then ptp_server

  -- private = "private" [ ":traceable" ]
  unfoldable pub private : Rule
  private = text "private" then maybe (text ":traceable")

  -- byte-string as the value of an extension, narrowed to well-formed UTF-8
  unfoldable pub ext_bytes : Rule
  ext_bytes = byte_string only utf8_octets

  -- [ "=" byte-string ]
  unfoldable pub ext_value : Rule
  ext_value = maybe (letter "=" then ext_bytes)

  -- clksrc-ext = token [ "=" byte-string ], narrowed to what the rules before it leave
  unfoldable pub clksrc_ext : Rule
  clksrc_ext = (token then ext_value) only left_to_ref_ext

  -- the alternative of each kind
  abbrev pub clksrc_of : RefKind → Rule
  clksrc_of kind.ntp = ntp
  clksrc_of kind.ptp = ptp
  clksrc_of kind.gps = text "gps"
  clksrc_of kind.gal = text "gal"
  clksrc_of kind.glonass = text "glonass"
  clksrc_of kind.local = text "local"
  clksrc_of kind.private = private
  clksrc_of kind.ref_ext = clksrc_ext

  -- clksrc = ntp / ptp / gps / gal / glonass / local / private / clksrc-ext
  unfoldable pub clksrc : Rule
  clksrc = ntp or ptp or text "gps" or text "gal" or text "glonass" or text "local" or private or clksrc_ext

  -- sender = "sender" [ sender-ext ], sender-ext = token; narrowed to no extension
  unfoldable pub sender : Rule
  sender = text "sender" then maybe token only nothing

  -- integer = POS-DIGIT *DIGIT, narrowed to 32 bits
  unfoldable pub integer : Rule
  integer = (pos_digit then_many digit) only up_to 4294967295

  -- [ SP "rate=" integer "/" integer ]
  unfoldable pub rate : Rule
  rate = maybe (sp then text "rate=" then integer then letter "/" then integer)

  -- 1*DIGIT as an offset, narrowed to 32 bits
  unfoldable pub offset : Rule
  offset = one_or_more digit only up_to 4294967295

  -- direct = "direct" [ "=" 1*DIGIT ] [ SP "rate=" integer "/" integer ] [ direct-ext ], direct-ext = token; narrowed to no extension
  unfoldable pub direct : Rule
  direct = text "direct" then maybe (letter "=" then offset) then rate then maybe token only nothing

  -- "IEEE1722=" EUI64
  unfoldable pub stream : Rule
  stream = text "IEEE1722=" then eui64

  -- token [ "=" byte-string ], narrowed to what the rules before it leave
  unfoldable pub media_ext : Rule
  media_ext = (token then ext_value) only left_to_media_ext

  -- mediaclock = sender / direct / "IEEE1722=" EUI64 / token [ "=" byte-string ]
  unfoldable pub mediaclock : Rule
  mediaclock = sender or direct or stream or media_ext

  -- base64, narrowed to one byte or more
  unfoldable pub tag : Rule
  tag = base64 only not_empty

  -- mediaclk = [ "id=" [ "src:" ] base64 SP ] mediaclock, where [ a ] b is a b / b; the latter narrowed to what does not begin as an id does
  unfoldable pub mediaclk : Rule
  mediaclk = ((text "id=" then maybe (text "src:") then tag then sp) then mediaclock) or mediaclock only left_to_no_id

  -- the alternative of each kind
  abbrev pub mediaclock_of : MediaKind → Rule
  mediaclock_of kind.sender = sender
  mediaclock_of kind.direct = direct
  mediaclock_of kind.stream = stream
  mediaclock_of kind.media_ext = media_ext

  abbrev pub mediaclk_of : SourceKind → Rule
  mediaclk_of (k with_id kind.no_id) = mediaclock_of k only left_to_no_id
  mediaclk_of (k with_id kind.plain_id) = (text "id=" then tag then sp) then mediaclock_of k
  mediaclk_of (k with_id kind.src_id) = (text "id=" then text "src:" then tag then sp) then mediaclock_of k
