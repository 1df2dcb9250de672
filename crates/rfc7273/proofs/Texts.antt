-- A text that has a meaning is one of the narrowed grammar, by the alternative of its kind. Assumes nothing.
use Rattle.std.specs.Prelude.{Option, Some}
use Prim.Native.Nat.{ℕ}
use mathlib.Core.Path.{◌≡◌, refl}
use mathlib.Core.Bool.{true}
use mathlib.Core.List.{List, [], ◌++◌, append_assoc}
use Rattle.text.specs.Word.{word}
use Rattle.text.proofs.Bools.{both, or_left}
use Rattle.abnf.specs.Rule.{Rule, nothing, range, letter, ◌or◌, ◌then◌, maybe}
use Rattle.abnf.proofs.Rules.{then_join}
use Rattle.ipaddr.specs.Address.{ipv6address}
use Rattle.meaning.specs.Meaning.{Version, Server, RefMeaning, Ratio, Tag, MediaMeaning, SourceMeaning, media_source}
use Rattle.rfc7273.specs.Manner.{narrowed, quoted, only_in}
use Rattle.rfc7273.specs.Elsewhere.{sp, token, host, port, hostport}
use Rattle.rfc7273.specs.Kinds.{ref_kind, media_kind, source_kind}
use Rattle.rfc7273.specs.Grammar.{eui64, ntp, ptp_version, ptp_server, ptp, private, ext_bytes, ext_value, clksrc_ext, clksrc_of, offset, integer}
use Rattle.rfc7273.specs.Grammar.{rate, sender, direct, stream, media_ext, mediaclock_of, tag, mediaclk_of}
use Rattle.rfc7273.specs.Means.{HostText, hostname_text, ipv4_text, ipv6_text, HostportText, without_port, with_port, VersionText, text_2002}
use Rattle.rfc7273.specs.Means.{text_2008, text_2011, token_text, ServerText, gmid_text, traceable_text, ExtText, without_value, with_value}
use Rattle.rfc7273.specs.Means.{RefText, ntp_text_lem, ntp_traceable_text, ptp_text, gps_text, gal_text, glonass_text, local_text, private_text}
use Rattle.rfc7273.specs.Means.{private_traceable_text, ref_ext_text, OffsetText, without_offset, with_offset_lem, RateText, without_rate}
use Rattle.rfc7273.specs.Means.{with_rate_lem, MediaText, sender_text, direct_text, stream_text, media_ext_text, TagText, plain_text, src_text}
use Rattle.rfc7273.specs.Means.{SourceText, untagged_text, tagged_text}
use Rattle.rfc7273.proofs.Laws.{then_empty, or_first, or_second, quoted_own, quoted_then, byte_then}

-- ts-refclk
host_text_lem : {s h : List ℕ} → HostText s h → host s ≡ true
unfolding host range
host_text_lem (hostname_text s k) = or_first _ _ s k
host_text_lem (ipv4_text s k) = or_second _ _ s (or_first _ _ s k)
host_text_lem (ipv6_text s k) =
    let t = word "[" ++ (s ++ word "]") in
    or_second _ _ t
    (or_second _ _ t
    (byte_then 91 (ipv6address then letter "]") (s ++ word "]") (then_join ipv6address (letter "]") s (word "]") k refl)))

hostport_text : {t h : List ℕ} {p : Option ℕ} → HostportText t h p → hostport narrowed t ≡ true
unfolding hostport ◌or◌ nothing
hostport_text (without_port s h k) = then_empty host (maybe (letter ":" then port narrowed)) s (host_text_lem k) refl
hostport_text (with_port s h p k e) =
    then_join host (maybe (letter ":" then port narrowed)) s (word ":" ++ p) (host_text_lem k) (byte_then 58 (port narrowed) p e)

pub version_text_lem : {v : List ℕ} {a : Version} → VersionText v a → ptp_version narrowed v ≡ true
unfolding ptp_version
version_text_lem text_2002 = or_first _ _ _ (quoted_own "IEEE1588-2002")
version_text_lem text_2008 = or_second _ _ _ (or_first _ _ _ (quoted_own "IEEE1588-2008"))
version_text_lem text_2011 = or_second _ _ _ (or_second _ _ _ (or_first _ _ _ (quoted_own "IEEE802.1AS-2011")))
version_text_lem (token_text s k e) = or_second _ _ s (or_second _ _ s (or_second _ _ s k))

gmid_alone : (g : List ℕ) → eui64 g ≡ true → ptp_server narrowed g ≡ true
unfolding ptp_server only_in ◌or◌ nothing
gmid_alone g k = or_left _ (then_empty eui64 _ g k refl)

server_text_lem : {s : List ℕ} {b : Server} → ServerText s b → ptp_server narrowed s ≡ true
unfolding ptp_server
server_text_lem (gmid_text g k) = gmid_alone g k
server_text_lem traceable_text = or_second _ _ _ (quoted_own "traceable")

pub ext_text : {s n : List ℕ} {x : Option (List ℕ)} → ExtText s n x → (token then ext_value narrowed) s ≡ true
unfolding ext_value ◌or◌ nothing
ext_text (without_value n k) = then_empty token (ext_value narrowed) n k refl
ext_text (with_value n x k e) = then_join token (ext_value narrowed) n (word "=" ++ x) k (byte_then 61 (ext_bytes narrowed) x e)

pub ref_text : {s : List ℕ} {m : RefMeaning} → RefText s m → clksrc_of narrowed (ref_kind m) s ≡ true
unfolding ntp ptp private clksrc_ext only_in ◌or◌ nothing
ref_text (ntp_text_lem t h p k) = quoted_then "ntp=" _ t (or_first (hostport narrowed) (quoted narrowed "/traceable/") t (hostport_text k))
ref_text ntp_traceable_text =
    quoted_then "ntp=" _ (word "/traceable/")
    (or_second (hostport narrowed) (quoted narrowed "/traceable/") (word "/traceable/") (quoted_own "/traceable/"))
ref_text (ptp_text v s a b k e) =
    quoted_then "ptp=" _ (v ++ (word ":" ++ s))
    (then_join (ptp_version narrowed) _ v (word ":" ++ s) (version_text_lem k) (byte_then 58 (ptp_server narrowed) s (server_text_lem e)))
ref_text gps_text = quoted_own "gps"
ref_text gal_text = quoted_own "gal"
ref_text glonass_text = quoted_own "glonass"
ref_text local_text = quoted_own "local"
ref_text private_text = then_empty (quoted narrowed "private") (maybe (quoted narrowed ":traceable")) (word "private") (quoted_own "private") refl
ref_text private_traceable_text = quoted_then "private" (maybe (quoted narrowed ":traceable")) (word ":traceable") (quoted_own ":traceable")
ref_text (ref_ext_text s n x k e) = both (ext_text k) e

-- mediaclk
abbrev maybe_offset : Rule
maybe_offset = maybe (letter "=" then offset narrowed)

abbrev no_ext : Rule
no_ext = only_in narrowed (maybe token) nothing

no_ext_lem : no_ext [] ≡ true
unfolding only_in ◌or◌ nothing
no_ext_lem = refl

offset_text_lem : {o : List ℕ} {a : Option ℕ} → OffsetText o a → maybe_offset o ≡ true
unfolding ◌or◌ nothing
offset_text_lem without_offset = refl
offset_text_lem (with_offset_lem d k) = byte_then 61 (offset narrowed) d k

rate_text_lem : {r : List ℕ} {b : Option Ratio} → RateText r b → rate narrowed r ≡ true
unfolding rate ◌or◌ nothing
rate_text_lem without_rate = refl
rate_text_lem (with_rate_lem n d k e) =
    byte_then 32 _ (word "rate=" ++ (n ++ (word "/" ++ d)))
    (quoted_then "rate=" _ (n ++ (word "/" ++ d))
    (then_join (integer narrowed) _ n (word "/" ++ d) k (byte_then 47 (integer narrowed) d e)))

media_text_lem : {s : List ℕ} {m : MediaMeaning} → MediaText s m → mediaclock_of narrowed (media_kind m) s ≡ true
unfolding sender direct stream media_ext only_in
media_text_lem sender_text = then_empty (quoted narrowed "sender") no_ext (word "sender") (quoted_own "sender") no_ext_lem
media_text_lem (direct_text o r a b k e) =
    quoted_then "direct" _ (o ++ r)
    (then_join maybe_offset (rate narrowed then no_ext) o r (offset_text_lem k) (then_empty (rate narrowed) no_ext r (rate_text_lem e) no_ext_lem))
media_text_lem (stream_text g k) = quoted_then "IEEE1722=" eui64 g k
media_text_lem (media_ext_text s n x k e) = both (ext_text k) e

tag_space_lem : (t : List ℕ) → tag narrowed t ≡ true → (tag narrowed then sp) (t ++ word " ") ≡ true
unfolding range
tag_space_lem t k = then_join (tag narrowed) sp t (word " ") k refl

source_of : {t s : List ℕ} {a : Tag} {m : MediaMeaning} → TagText t a → MediaText s m
    → mediaclk_of narrowed (source_kind (media_source (Some a) m)) (word "id=" ++ ((t ++ word " ") ++ s)) ≡ true
source_of {s = s} (plain_text x k) e =
    then_join (quoted narrowed "id=" then tag narrowed then sp) _ (word "id=" ++ (x ++ word " ")) s
    (quoted_then "id=" _ (x ++ word " ") (tag_space_lem x k)) (media_text_lem e)
source_of {s = s} (src_text x k) e =
    then_join (quoted narrowed "id=" then quoted narrowed "src:" then tag narrowed then sp) _ (word "id=src:" ++ (x ++ word " ")) s
    (quoted_then "id=" _ (word "src:" ++ (x ++ word " "))
    (quoted_then "src:" _ (x ++ word " ") (tag_space_lem x k))) (media_text_lem e)

pub source_text : {s : List ℕ} {m : SourceMeaning} → SourceText s m → mediaclk_of narrowed (source_kind m) s ≡ true
unfolding only_in
source_text (untagged_text s m k e) = both (media_text_lem k) e
source_text (tagged_text t s a m k e) = rw (append_assoc t (word " ") s) at (source_of k e)
