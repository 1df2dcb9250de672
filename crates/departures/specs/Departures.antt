-- Where reading departs from the RFC: texts, the alternatives of the published grammar that take each, and what reading says of it.
-- `proofs/Departures.antt` proves the rows.
use Rattle.std.specs.Prelude.{ℕ, cond, List, [], ◌∷◌, ◌++◌, Result, Ok, Err}
use Rattle.text.specs.Word.{word}
use Rattle.text.specs.Example.{Example, ◌gives◌}
use Rattle.abnf.specs.Rule.{Rule}
use Rattle.meaning.specs.ReferenceClock.{read_reference_clock}
use Rattle.meaning.specs.Text.{reference_clock_text}
use Rattle.rfc7273.specs.Manner.{published}
use Rattle.rfc7273.specs.Kinds.{Says, accepted_as, refused_with, RefKind, ntp, ptp, gps, gal, glonass, local, private, ref_ext, ref_says, no_id, plain_id}
use Rattle.rfc7273.specs.Kinds.{src_id, sender, direct, stream, media_ext, SourceKind, ◌with_id◌, media_says}
use Rattle.rfc7273.specs.Grammar.{clksrc_of, mediaclk_of}
use Rattle.clock.specs.declared.ReferenceClock.{ReferenceClock}
use Rattle.clock.specs.declared.Refusal.{Refusal}

-- those kinds whose alternative takes the text s
module _ {K : Type 0} (alternative : K → Rule) (s : List ℕ) where
  abbrev pub takers : List K → List K
  takers [] = []
  takers (k ∷ ks) = cond (alternative k s) (k ∷ takers ks) (takers ks)

abbrev pub ref_kinds : List RefKind
ref_kinds = ntp ∷ ptp ∷ gps ∷ gal ∷ glonass ∷ local ∷ private ∷ ref_ext ∷ []

abbrev pub source_kinds : List SourceKind
source_kinds =
    sender with_id no_id ∷ direct with_id no_id ∷ stream with_id no_id ∷ media_ext with_id no_id
    ∷ sender with_id plain_id ∷ direct with_id plain_id ∷ stream with_id plain_id ∷ media_ext with_id plain_id
    ∷ sender with_id src_id ∷ direct with_id src_id ∷ stream with_id src_id ∷ media_ext with_id src_id ∷ []

abbrev pub ref_both : List ℕ → List RefKind × Says RefKind
ref_both s = (takers (clksrc_of published) s ref_kinds, ref_says s)

abbrev pub source_both : List ℕ → List SourceKind × Says SourceKind
source_both s = (takers (mediaclk_of published) s source_kinds, media_says s)

-- examples of the RFC of ts-refclk; the one with a domain is by the RFC's grammar only an extension
abbrev pub ref_examples : List (Example (List ℕ) (List RefKind × Says RefKind))
ref_examples =
    -- examples of the RFC
    word "ntp=/traceable/" gives (ntp ∷ ref_ext ∷ [], accepted_as ntp)
    ∷ word "ntp=203.0.113.10" gives (ntp ∷ ref_ext ∷ [], accepted_as ntp)
    ∷ word "ptp=IEEE802.1AS-2011:39-A7-94-FF-FE-07-CB-D0" gives (ptp ∷ ref_ext ∷ [], accepted_as ptp)
    ∷ word "ptp=IEEE1588-2008:39-A7-94-FF-FE-07-CB-D0:0" gives (ref_ext ∷ [], accepted_as ptp)
    ∷ word "ptp=IEEE1588-2008:traceable" gives (ptp ∷ ref_ext ∷ [], accepted_as ptp)
    ∷ word "local" gives (local ∷ ref_ext ∷ [], accepted_as local)
    ∷ word "private:traceable" gives (private ∷ [], accepted_as private)
    ∷ []

-- and of mediaclk, the tags of the last two cut short: the grammar of a long base64 is slow to compute
abbrev pub source_examples : List (Example (List ℕ) (List SourceKind × Says SourceKind))
source_examples =
    -- examples of the RFC
    word "sender" gives (sender with_id no_id ∷ media_ext with_id no_id ∷ [], accepted_as (sender with_id no_id))
    ∷ word "direct=963214424" gives (direct with_id no_id ∷ media_ext with_id no_id ∷ [], accepted_as (direct with_id no_id))
    ∷ word "direct=963214424 rate=1000/1001" gives (direct with_id no_id ∷ media_ext with_id no_id ∷ [], accepted_as (direct with_id no_id))
    ∷ word "IEEE1722=38-D6-6D-8E-D2-78-13-2F" gives (stream with_id no_id ∷ media_ext with_id no_id ∷ [], accepted_as (stream with_id no_id))
    ∷ word "id=src:MDA6 sender" gives (media_ext with_id no_id ∷ sender with_id src_id ∷ media_ext with_id src_id ∷ [], accepted_as (sender with_id src_id))
    ∷ word "id=MDA= sender" gives (media_ext with_id no_id ∷ sender with_id plain_id ∷ media_ext with_id plain_id ∷ [], accepted_as (sender with_id plain_id))
    ∷ []

-- ts-refclk: looser than the RFC. Any byte-string can be the value of an extension, so most of these are extensions named "ntp" or "ptp" to the RFC.
abbrev pub ref_looser : List (Example (List ℕ) (List RefKind × Says RefKind))
ref_looser =
    -- a bare domain, also with leading zeros or a "+"
    word "ptp=V:00-00-00-00-00-00-00-00:5" gives (ref_ext ∷ [], accepted_as ptp)
    ∷ word "ptp=V:00-00-00-00-00-00-00-00:+05" gives (ref_ext ∷ [], accepted_as ptp)
    -- a bare domain of 16 bytes, which is a name
    ∷ word "ptp=V:00-00-00-00-00-00-00-00:sixteen bytes..." gives (ref_ext ∷ [], accepted_as ptp)
    -- "+" before a port, and before a digit of an EUI-64
    ∷ word "ntp=h:+80" gives (ref_ext ∷ [], accepted_as ntp)
    ∷ word "ptp=V:+1-00-00-00-00-00-00-00" gives (ref_ext ∷ [], accepted_as ptp)
    -- a version of any bytes but ":"
    ∷ word "ptp=V 1:traceable" gives (ref_ext ∷ [], accepted_as ptp)
    -- a host of any bytes
    ∷ word "ntp=a_b" gives (ref_ext ∷ [], accepted_as ntp)
    -- an IPv6 address without brackets
    ∷ word "ntp=::1" gives (ref_ext ∷ [], accepted_as ntp)
    -- an IPv4 address in brackets
    ∷ word "ntp=[1.2.3.4]" gives (ref_ext ∷ [], accepted_as ntp)
    -- an extension whose name has bytes that no token has, but no "="
    ∷ word "a b" gives ([], accepted_as ref_ext)
    -- a clock's word with a space and more behind it, which is the name of an extension
    ∷ word "gps x" gives ([], accepted_as ref_ext)
    -- no departure: a clock's word with a value is an extension to both
    ∷ word "gps=5" gives (ref_ext ∷ [], accepted_as ref_ext)
    -- an extension with an empty value
    ∷ word "x=" gives ([], accepted_as ref_ext)
    -- an extension whose value has NUL, LF or CR
    ∷ (word "x=" ++ 0 ∷ []) gives ([], accepted_as ref_ext)
    ∷ (word "x=" ++ 10 ∷ []) gives ([], accepted_as ref_ext)
    ∷ (word "x=" ++ 13 ∷ []) gives ([], accepted_as ref_ext)
    ∷ []

-- ts-refclk: stricter
abbrev pub ref_stricter : List (Example (List ℕ) (List RefKind × Says RefKind))
ref_stricter =
    -- the RFC's own domains
    word "ptp=V:00-00-00-00-00-00-00-00:domain-nmbr=0" gives (ptp ∷ ref_ext ∷ [], refused_with 10)
    ∷ word "ptp=V:00-00-00-00-00-00-00-00:domain-name=foo" gives (ptp ∷ ref_ext ∷ [], refused_with 10)
    -- an RFC domain of 16 bytes, which is a name of all 16
    ∷ word "ptp=V:00-00-00-00-00-00-00-00:domain-name=four" gives (ptp ∷ ref_ext ∷ [], accepted_as ptp)
    -- a port over 16 bits
    ∷ word "ntp=h:65536" gives (ntp ∷ ref_ext ∷ [], refused_with 6)
    ∷ word "ntp=[::1]:65536" gives (ntp ∷ ref_ext ∷ [], refused_with 4)
    -- words in another case
    ∷ word "GPS" gives (gps ∷ ref_ext ∷ [], accepted_as ref_ext)
    ∷ word "NTP=h" gives (ntp ∷ ref_ext ∷ [], accepted_as ref_ext)
    ∷ word "PTP=V:traceable" gives (ptp ∷ ref_ext ∷ [], accepted_as ref_ext)
    ∷ word "ptp=V:TRACEABLE" gives (ptp ∷ ref_ext ∷ [], refused_with 9)
    ∷ word "PRIVATE:traceable" gives (private ∷ [], accepted_as ref_ext)
    ∷ word "private:TRACEABLE" gives (private ∷ [], accepted_as ref_ext)
    -- "/traceable/" and a version in another case, which are a host and a version of its own
    ∷ word "ntp=/TRACEABLE/" gives (ntp ∷ ref_ext ∷ [], accepted_as ntp)
    ∷ word "ptp=ieee1588-2008:traceable" gives (ptp ∷ ref_ext ∷ [], accepted_as ptp)
    -- extensions named "ntp" and "ptp"
    ∷ word "ntp=:80" gives (ref_ext ∷ [], refused_with 5)
    ∷ word "ptp=x" gives (ref_ext ∷ [], refused_with 7)
    -- an address of a later version of IP in brackets, which RFC 3986 has and RFC 3261 has not
    ∷ word "ntp=[v1.x]" gives (ref_ext ∷ [], refused_with 4)
    -- a traceable PTP server with more behind it
    ∷ word "ptp=V:traceable:5" gives (ref_ext ∷ [], refused_with 9)
    ∷ []

-- all rows of ts-refclk that are of bytes below 128
abbrev pub ref_rows : List (Example (List ℕ) (List RefKind × Says RefKind))
ref_rows = ref_examples ++ (ref_looser ++ ref_stricter)

-- mediaclk: looser
abbrev pub source_looser : List (Example (List ℕ) (List SourceKind × Says SourceKind))
source_looser =
    -- "+" before a number, and before a digit of an EUI-64
    word "direct=+5" gives (media_ext with_id no_id ∷ [], accepted_as (direct with_id no_id))
    ∷ word "IEEE1722=+1-00-00-00-00-00-00-00" gives (media_ext with_id no_id ∷ [], accepted_as (stream with_id no_id))
    -- a rate with leading zeros
    ∷ word "direct rate=01/1" gives ([], accepted_as (direct with_id no_id))
    -- a rate of 0
    ∷ word "direct rate=0/1" gives ([], accepted_as (direct with_id no_id))
    -- a space and nothing behind "direct" or its offset
    ∷ word "direct " gives ([], accepted_as (direct with_id no_id))
    ∷ word "direct=5 " gives (media_ext with_id no_id ∷ [], accepted_as (direct with_id no_id))
    -- a tag of any bytes but a space
    ∷ word "id=a*b sender" gives (media_ext with_id no_id ∷ [], accepted_as (sender with_id plain_id))
    -- an extension whose name has bytes that no token has, but no "="
    ∷ word "a b" gives ([], accepted_as (media_ext with_id no_id))
    -- no departure: "sender" with a value is an extension to both
    ∷ word "sender=x" gives (media_ext with_id no_id ∷ [], accepted_as (media_ext with_id no_id))
    -- an extension with an empty value
    ∷ word "x=" gives ([], accepted_as (media_ext with_id no_id))
    -- an extension whose value has NUL, LF or CR
    ∷ (word "x=" ++ 0 ∷ []) gives ([], accepted_as (media_ext with_id no_id))
    ∷ (word "x=" ++ 10 ∷ []) gives ([], accepted_as (media_ext with_id no_id))
    ∷ (word "x=" ++ 13 ∷ []) gives ([], accepted_as (media_ext with_id no_id))
    ∷ []

-- mediaclk: stricter
abbrev pub source_stricter : List (Example (List ℕ) (List SourceKind × Says SourceKind))
source_stricter =
    -- an offset, a numerator or a denominator over 32 bits
    word "direct=4294967296" gives (direct with_id no_id ∷ media_ext with_id no_id ∷ [], refused_with 14)
    ∷ word "direct rate=4294967296/1" gives (direct with_id no_id ∷ [], refused_with 17)
    ∷ word "direct rate=1/4294967296" gives (direct with_id no_id ∷ [], refused_with 18)
    -- words in another case
    ∷ word "Sender" gives (sender with_id no_id ∷ media_ext with_id no_id ∷ [], accepted_as (media_ext with_id no_id))
    ∷ word "Direct=5" gives (direct with_id no_id ∷ media_ext with_id no_id ∷ [], accepted_as (media_ext with_id no_id))
    ∷ word "direct RATE=1/2" gives (direct with_id no_id ∷ [], refused_with 15)
    ∷ word "ieee1722=38-D6-6D-8E-D2-78-13-2F" gives (stream with_id no_id ∷ media_ext with_id no_id ∷ [], accepted_as (media_ext with_id no_id))
    ∷ word "ID=AAAA sender" gives (media_ext with_id no_id ∷ sender with_id plain_id ∷ media_ext with_id plain_id ∷ [], accepted_as (media_ext with_id no_id))
    ∷ word "id=SRC:AAAA sender" gives (media_ext with_id no_id ∷ sender with_id src_id ∷ media_ext with_id src_id ∷ [], accepted_as (sender with_id plain_id))
    -- "sender" or "direct" with a token behind it
    ∷ word "sender2" gives (sender with_id no_id ∷ media_ext with_id no_id ∷ [], accepted_as (media_ext with_id no_id))
    ∷ word "director" gives (direct with_id no_id ∷ media_ext with_id no_id ∷ [], refused_with 15)
    ∷ word "direct=5x" gives (direct with_id no_id ∷ media_ext with_id no_id ∷ [], refused_with 14)
    ∷ word "direct rate=1/2x" gives (direct with_id no_id ∷ [], refused_with 18)
    -- an extension whose name begins with "direct"
    ∷ word "direct-x=1" gives (media_ext with_id no_id ∷ [], refused_with 15)
    -- extensions named "direct", "IEEE1722" and "id"
    ∷ word "direct=x" gives (media_ext with_id no_id ∷ [], refused_with 14)
    ∷ word "IEEE1722=x" gives (media_ext with_id no_id ∷ [], refused_with 19)
    ∷ word "id=a" gives (media_ext with_id no_id ∷ [], refused_with 12)
    -- a stream with more behind it
    ∷ word "IEEE1722=38-D6-6D-8E-D2-78-13-2F x" gives (media_ext with_id no_id ∷ [], refused_with 19)
    -- an empty tag
    ∷ word "id= sender" gives (media_ext with_id no_id ∷ sender with_id plain_id ∷ media_ext with_id plain_id ∷ [], refused_with 13)
    ∷ word "id=src: sender" gives (media_ext with_id no_id ∷ sender with_id src_id ∷ media_ext with_id src_id ∷ [], refused_with 13)
    ∷ []

-- all rows of mediaclk that are of bytes below 128
abbrev pub source_rows : List (Example (List ℕ) (List SourceKind × Says SourceKind))
source_rows = source_examples ++ (source_looser ++ source_stricter)

-- both, stricter: bytes that are no UTF-8
abbrev pub ref_ill_formed : List (Example (List ℕ) (List RefKind × Says RefKind))
ref_ill_formed =
    -- an extension whose value is no UTF-8
    (word "x=" ++ 255 ∷ []) gives (ref_ext ∷ [], refused_with 2)
    ∷ []

abbrev pub source_ill_formed : List (Example (List ℕ) (List SourceKind × Says SourceKind))
source_ill_formed =
    -- an extension whose value is no UTF-8
    (word "x=" ++ 255 ∷ []) gives (media_ext with_id no_id ∷ [], refused_with 2)
    ∷ []

-- ts-refclk, written: the text of an accepted value, and the published alternatives that take that
abbrev pub text_of : List ℕ → Result ReferenceClock Refusal → List ℕ
text_of s (Ok c) = reference_clock_text s c
text_of s (Err r) = []

abbrev pub written_both : List ℕ → List ℕ × List RefKind
written_both s = let t = text_of s (read_reference_clock s) in (t, takers (clksrc_of published) t ref_kinds)

abbrev pub ref_written : List (Example (List ℕ) (List ℕ × List RefKind))
ref_written =
    -- an IPv6 address without a port loses its brackets
    word "ntp=[::1]" gives (word "ntp=::1", ref_ext ∷ [])
    -- no departure: an IPv6 address with a port keeps its brackets
    ∷ word "ntp=[::1]:80" gives (word "ntp=[::1]:80", ntp ∷ ref_ext ∷ [])
    ∷ []
