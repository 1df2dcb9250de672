-- What RFC 7273 takes from elsewhere: RFC 5234 (appendix B.1), RFC 4566 (section 9), RFC 3261 (section 25.1). Above each definition stands the
-- rule's own line. DIGIT, HEXDIG, IPv4address and IPv6address stand in `ipaddr`.
-- The rules were set down from knowledge of the RFCs, whose texts were not at hand: where they differ from a published RFC, it is right.
use Rattle.abnf.specs.Rule.{Rule, range, byte, letter, ◌or◌, ◌then◌, ◌then_many◌, maybe, times, many, one_or_more}
use Rattle.ipaddr.specs.Address.{digit, ipv4address, ipv6address}
use Rattle.rfc7273.specs.Manner.{Manner, only_in, up_to}

-- ALPHA = %x41-5A / %x61-7A
unfoldable pub alpha : Rule
alpha = range 0x41 0x5A or range 0x61 0x7A

-- SP = %x20
abbrev pub sp : Rule
sp = byte 0x20

-- POS-DIGIT = %x31-39
abbrev pub pos_digit : Rule
pos_digit = range 0x31 0x39

-- token-char = %x21 / %x23-27 / %x2A-2B / %x2D-2E / %x30-39 / %x41-5A / %x5E-7E
unfoldable pub token_char : Rule
token_char =
    byte 0x21 or range 0x23 0x27 or range 0x2A 0x2B or range 0x2D 0x2E or range 0x30 0x39 or range 0x41 0x5A or range 0x5E 0x7E

-- token = 1*( token-char )
unfoldable pub token : Rule
token = one_or_more token_char

-- byte-string = 1*( %x01-09 / %x0B-0C / %x0E-FF )
unfoldable pub byte_string : Rule
byte_string = one_or_more (range 0x01 0x09 or range 0x0B 0x0C or range 0x0E 0xFF)

-- base64-char = ALPHA / DIGIT / "+" / "/"
unfoldable pub base64_char : Rule
base64_char = alpha or digit or letter "+" or letter "/"

-- base64 = *( 4base64-char ) [ 2base64-char "==" / 3base64-char "=" ]
unfoldable pub base64 : Rule
base64 =
    many (times 4 base64_char)
    then maybe ((times 2 base64_char then letter "=" then letter "=") or (times 3 base64_char then letter "="))

-- alphanum = ALPHA / DIGIT
unfoldable pub alphanum : Rule
alphanum = alpha or digit

-- domainlabel = alphanum / alphanum *( alphanum / "-" ) alphanum
unfoldable pub domainlabel : Rule
domainlabel = alphanum or ((alphanum then_many (alphanum or letter "-")) then alphanum)

-- toplabel = ALPHA / ALPHA *( alphanum / "-" ) alphanum
unfoldable pub toplabel : Rule
toplabel = alpha or ((alpha then_many (alphanum or letter "-")) then alphanum)

-- hostname = *( domainlabel "." ) toplabel [ "." ]
unfoldable pub hostname : Rule
hostname = many (domainlabel then letter ".") then toplabel then maybe (letter ".")

-- host = hostname / IPv4address / "[" IPv6address "]"
unfoldable pub host : Rule
host = hostname or ipv4address or (letter "[" then ipv6address then letter "]")

module _ (m : Manner) where
  infix 50 ◌only◌
  abbrev ◌only◌ : Rule → Rule → Rule
  ◌only◌ p q = only_in m p q

  -- port = 1*DIGIT, narrowed to 16 bits
  unfoldable pub port : Rule
  port = one_or_more digit only up_to 65535

  -- hostport = host [ ":" port ]
  unfoldable pub hostport : Rule
  hostport = host then maybe (letter ":" then port)
