-- The text of an IP address: RFC 3986, section 3.2.2, with DIGIT and HEXDIG of RFC 5234, appendix B.1.
-- Above each definition stands the rule's own line.
use Rattle.abnf.specs.Rule.{Rule, range, letter, ◌or◌, ◌then◌, maybe, times, upto}

-- DIGIT = %x30-39
abbrev pub digit : Rule
digit = range 0x30 0x39

-- HEXDIG = DIGIT / "A" / "B" / "C" / "D" / "E" / "F", where a letter in quotes stands for either case
unfoldable pub hexdig : Rule
hexdig = digit or range 0x41 0x46 or range 0x61 0x66

-- dec-octet = DIGIT / %x31-39 DIGIT / "1" 2DIGIT / "2" %x30-34 DIGIT / "25" %x30-35
unfoldable pub dec_octet : Rule
dec_octet =
    digit or
    (range 0x31 0x39 then digit) or
    (letter "1" then times 2 digit) or
    (letter "2" then range 0x30 0x34 then digit) or
    (letter "2" then letter "5" then range 0x30 0x35)

-- IPv4address = dec-octet "." dec-octet "." dec-octet "." dec-octet
unfoldable pub ipv4address : Rule
ipv4address = dec_octet then letter "." then dec_octet then letter "." then dec_octet then letter "." then dec_octet

-- h16 = 1*4HEXDIG
unfoldable pub h16 : Rule
h16 = hexdig then upto 3 hexdig

-- h16 ":"
unfoldable pub h16colon : Rule
h16colon = h16 then letter ":"

-- "::"
unfoldable pub double_colon : Rule
double_colon = letter ":" then letter ":"

-- ls32 = ( h16 ":" h16 ) / IPv4address
unfoldable pub ls32 : Rule
ls32 = (h16 then letter ":" then h16) or ipv4address

-- IPv6address =                            6( h16 ":" ) ls32
--             /                       "::" 5( h16 ":" ) ls32
--             / [               h16 ] "::" 4( h16 ":" ) ls32
--             / [ *1( h16 ":" ) h16 ] "::" 3( h16 ":" ) ls32
--             / [ *2( h16 ":" ) h16 ] "::" 2( h16 ":" ) ls32
--             / [ *3( h16 ":" ) h16 ] "::"    h16 ":"   ls32
--             / [ *4( h16 ":" ) h16 ] "::"              ls32
--             / [ *5( h16 ":" ) h16 ] "::"              h16
--             / [ *6( h16 ":" ) h16 ] "::"
unfoldable pub ipv6address : Rule
ipv6address =
    (times 6 h16colon then ls32) or
    (double_colon then times 5 h16colon then ls32) or
    (maybe h16 then double_colon then times 4 h16colon then ls32) or
    (maybe (upto 1 h16colon then h16) then double_colon then times 3 h16colon then ls32) or
    (maybe (upto 2 h16colon then h16) then double_colon then times 2 h16colon then ls32) or
    (maybe (upto 3 h16colon then h16) then double_colon then h16colon then ls32) or
    (maybe (upto 4 h16colon then h16) then double_colon then ls32) or
    (maybe (upto 5 h16colon then h16) then double_colon then h16) or
    (maybe (upto 6 h16colon then h16) then double_colon)

-- either of the two
unfoldable pub ip_address : Rule
ip_address = ipv4address or ipv6address
