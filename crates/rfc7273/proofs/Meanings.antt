-- A text of the narrowed grammar has a meaning of its alternative's kind. Assumes nothing.
use Rattle.std.specs.Prelude.{Option}
use Prim.Native.Nat.{ℕ}
use Prim.Native.String.{String}
use mathlib.Core.Path.{◌≡◌, refl, sym, ap}
use mathlib.Core.Bool.{true, false}
use mathlib.Core.List.{List, [], ◌∷◌, ◌++◌, append-nil, append_assoc}
use Rattle.text.specs.Word.{word, same}
use Rattle.text.proofs.Bools.{by_bool}
use Rattle.text.proofs.Cuts.{same_eq}
use Rattle.abnf.specs.Rule.{Rule, nothing, letter, ◌or◌, ◌then◌, maybe}
use Rattle.ipaddr.specs.Address.{ipv6address}
use Rattle.meaning.specs.Meaning.{RefMeaning, Tag, MediaMeaning}
use Rattle.rfc7273.specs.Manner.{narrowed, quoted, only_in}
use Rattle.rfc7273.specs.Elsewhere.{sp, token, host, port, hostport}
use Rattle.rfc7273.specs.Kinds.{RefKind, ref_kind, MediaKind, media_kind, SourceKind, ◌with_id◌, tag_kind, source_kind}
use Rattle.rfc7273.specs.Kinds as kind
use Rattle.rfc7273.specs.Grammar.{eui64, ptp_version, ptp_server, ext_bytes, ext_value, clksrc_ext, clksrc_of, offset, integer, rate, mediaclock_of}
use Rattle.rfc7273.specs.Grammar.{tag, mediaclk_of}
use Rattle.rfc7273.specs.Grammar as rule
use Rattle.rfc7273.specs.Means.{HostText, hostname_text, ipv4_text, ipv6_text, HostportText, without_port, with_port, VersionText, text_2002}
use Rattle.rfc7273.specs.Means.{text_2008, text_2011, token_text, ServerText, gmid_text, traceable_text, ExtText, without_value, with_value}
use Rattle.rfc7273.specs.Means.{RefText, ntp_text_lem, ntp_traceable_text, ptp_text, gps_text, gal_text, glonass_text, local_text, private_text}
use Rattle.rfc7273.specs.Means.{private_traceable_text, ref_ext_text, OffsetText, without_offset, with_offset_lem, RateText, without_rate}
use Rattle.rfc7273.specs.Means.{with_rate_lem, MediaText, sender_text, direct_text, stream_text, media_ext_text, TagText, plain_text, src_text}
use Rattle.rfc7273.specs.Means.{SourceText, untagged_text, tagged_text}
use Rattle.rfc7273.specs.Taken.{Meant}
use Rattle.rfc7273.proofs.Laws.{of_then, of_or, of_nothing, of_maybe, of_byte, of_only, of_quoted, of_quoted_then, of_byte_then}

-- a text has a meaning, whatever it is
abbrev Some : {M : Type 0} → (List ℕ → M → Type 0) → List ℕ → Type 0
Some {M} Means s = (m : M) × Means s m

-- hosts
host_some : (s : List ℕ) → host s ≡ true → Some HostText s
unfolding host
host_some =
    let P = Some HostText in
    of_or P (λ s k. (_, hostname_text s k))
    (of_or P (λ s k. (_, ipv4_text s k))
    (of_byte_then P (ipv6address then letter "]") 91
    (of_then (λ u. P (91 ∷ u)) ipv6address (letter "]") (λ u v k. of_byte (λ z. P (91 ∷ (u ++ z))) 93 (_, ipv6_text u k) v))))

record Hostport (t : List ℕ) : Type 0 where
  server : List ℕ
  number : Option ℕ
  is : HostportText t server number

hostport_some : (t : List ℕ) → hostport narrowed t ≡ true → Hostport t
unfolding hostport
hostport_some =
    of_then Hostport host _ (λ x y h.
    let k = host_some x h in
    of_maybe (λ z. Hostport (x ++ z)) (rw (append-nil x) (record { server = _; number = _; is = without_port x k.0 k.1 }))
    (of_byte_then (λ z. Hostport (x ++ z)) (port narrowed) 58
    (λ p e. record { server = _; number = _; is = with_port x k.0 p k.1 e })) y)

-- a PTP source
version_some : (x : List ℕ) → ptp_version narrowed x ≡ true → Some VersionText x
unfolding ptp_version
version_some =
    of_or P (of_quoted P "IEEE1588-2002" is_2002)
    (of_or P (of_quoted P "IEEE1588-2008" is_2008)
    (of_or P (of_quoted P "IEEE802.1AS-2011" is_2011)
    (λ x h.
    unless "IEEE1588-2002" x is_2002 (λ a.
    unless "IEEE1588-2008" x is_2008 (λ b.
    unless "IEEE802.1AS-2011" x is_2011 (λ c. (_, token_text x h (simp (a, b, c)))))))))
  where
    P : List ℕ → Type 0
    P = Some VersionText

    is_2002 : P (word "IEEE1588-2002")
    is_2002 = (_, text_2002)

    is_2008 : P (word "IEEE1588-2008")
    is_2008 = (_, text_2008)

    is_2011 : P (word "IEEE802.1AS-2011")
    is_2011 = (_, text_2011)

    unless : (w : String) (x : List ℕ) → P (word w) → (same x (word w) ≡ false → P x) → P x
    unless w x f g = by_bool (same x (word w)) (λ e. rw (sym (same_eq x (word w) e)) at f) g

server_some : (s : List ℕ) → ptp_server narrowed s ≡ true → Some ServerText s
unfolding ptp_server
server_some =
    of_or P
    (of_then P eui64 _ (λ g y h.
    of_only (λ z. P (g ++ z))
    (λ z k. of_nothing (λ z. P (g ++ z)) (rw (append-nil g) (_, gmid_text g h)) z) y))
    (of_quoted P "traceable" (_, traceable_text))
  where
    P : List ℕ → Type 0
    P = Some ServerText

-- an extension
record Extension (s : List ℕ) : Type 0 where
  name : List ℕ
  value : Option (List ℕ)
  is : ExtText s name value

ext_some : (s : List ℕ) → (token then ext_value narrowed) s ≡ true → Extension s
unfolding ext_value
ext_some =
    of_then Extension token _ (λ n y h.
    of_maybe (λ z. Extension (n ++ z)) (rw (append-nil n) (record { name = _; value = _; is = without_value n h }))
    (of_byte_then (λ z. Extension (n ++ z)) (ext_bytes narrowed) 61 (λ x k. record { name = _; value = _; is = with_value n x h k })) y)

-- ts-refclk
abbrev Ref : RefKind → List ℕ → Type 0
Ref = Meant RefText ref_kind

ref : {s : List ℕ} {m : RefMeaning} → RefText s m → Ref (ref_kind m) s
ref t = record { meaning = _; text = t; of_kind = refl }

ntp_meant : (s : List ℕ) → rule.ntp narrowed s ≡ true → Ref kind.ntp s
unfolding rule.ntp
ntp_meant =
    of_quoted_then (Ref kind.ntp) (hostport narrowed or quoted narrowed "/traceable/") "ntp="
    (of_or (λ t. Ref kind.ntp (word "ntp=" ++ t))
    (λ t h. let k = hostport_some t h in ref (ntp_text_lem t k.server k.number k.is))
    (of_quoted (λ t. Ref kind.ntp (word "ntp=" ++ t)) "/traceable/" (ref ntp_traceable_text)))

ptp_meant : (s : List ℕ) → rule.ptp narrowed s ≡ true → Ref kind.ptp s
unfolding rule.ptp
ptp_meant =
    of_quoted_then (Ref kind.ptp) (ptp_version narrowed then letter ":" then ptp_server narrowed) "ptp="
    (of_then (λ t. Ref kind.ptp (word "ptp=" ++ t)) (ptp_version narrowed) (letter ":" then ptp_server narrowed) (λ x y h.
    of_byte_then (λ t. Ref kind.ptp (word "ptp=" ++ (x ++ t))) (ptp_server narrowed) 58 (λ s k.
    let a = version_some x h in
    let b = server_some s k in
    ref (ptp_text x s a.0 b.0 a.1 b.1)) y))

private_meant : (s : List ℕ) → rule.private narrowed s ≡ true → Ref kind.private s
unfolding rule.private
private_meant =
    of_quoted_then (Ref kind.private) (maybe (quoted narrowed ":traceable")) "private"
    (of_maybe (λ y. Ref kind.private (word "private" ++ y)) (ref private_text)
    (of_quoted (λ y. Ref kind.private (word "private" ++ y)) ":traceable" (ref private_traceable_text)))

ref_ext_meant : (s : List ℕ) → clksrc_ext narrowed s ≡ true → Ref kind.ref_ext s
unfolding clksrc_ext
ref_ext_meant =
    of_only (Ref kind.ref_ext) (λ s h k.
    let e = ext_some s h in
    ref (ref_ext_text s e.name e.value e.is k))

pub ref_meant : (k : RefKind) (s : List ℕ) → clksrc_of narrowed k s ≡ true → Ref k s
ref_meant kind.ntp = ntp_meant
ref_meant kind.ptp = ptp_meant
ref_meant kind.gps = of_quoted (Ref kind.gps) "gps" (ref gps_text)
ref_meant kind.gal = of_quoted (Ref kind.gal) "gal" (ref gal_text)
ref_meant kind.glonass = of_quoted (Ref kind.glonass) "glonass" (ref glonass_text)
ref_meant kind.local = of_quoted (Ref kind.local) "local" (ref local_text)
ref_meant kind.private = private_meant
ref_meant kind.ref_ext = ref_ext_meant

-- a direct clock
offset_some : (o : List ℕ) → maybe (letter "=" then offset narrowed) o ≡ true → Some OffsetText o
offset_some =
    of_maybe (Some OffsetText) (_, without_offset)
    (of_byte_then (Some OffsetText) (offset narrowed) 61 (λ d h. (_, with_offset_lem d h)))

rate_some : (r : List ℕ) → rate narrowed r ≡ true → Some RateText r
unfolding rate
rate_some =
    of_maybe P (_, without_rate)
    (of_byte_then P _ 32
    (of_quoted_then (λ s. P (32 ∷ s)) _ "rate="
    (of_then (λ s. P (32 ∷ (word "rate=" ++ s))) (integer narrowed) _ (λ n y h.
    of_byte_then (λ s. P (32 ∷ (word "rate=" ++ (n ++ s)))) (integer narrowed) 47
    (λ d k. (_, with_rate_lem n d h k)) y))))
  where
    P : List ℕ → Type 0
    P = Some RateText

-- mediaclock
abbrev Media : MediaKind → List ℕ → Type 0
Media = Meant MediaText media_kind

media : {s : List ℕ} {m : MediaMeaning} → MediaText s m → Media (media_kind m) s
media t = record { meaning = _; text = t; of_kind = refl }

abbrev no_ext : Rule
no_ext = only_in narrowed (maybe token) nothing

sender_meant : (s : List ℕ) → rule.sender narrowed s ≡ true → Media kind.sender s
unfolding rule.sender
sender_meant =
    of_quoted_then (Media kind.sender) no_ext "sender"
    (of_only (λ z. Media kind.sender (word "sender" ++ z))
    (λ z h. of_nothing (λ z. Media kind.sender (word "sender" ++ z)) (media sender_text) z))

direct_meant : (s : List ℕ) → rule.direct narrowed s ≡ true → Media kind.direct s
unfolding rule.direct
direct_meant =
    of_quoted_then P _ "direct"
    (of_then (λ t. P (word "direct" ++ t)) (maybe (letter "=" then offset narrowed)) (rate narrowed then no_ext) (λ o y h.
    of_then (λ t. P (word "direct" ++ (o ++ t))) (rate narrowed) no_ext (λ r z k.
    of_only (λ t. P (word "direct" ++ (o ++ (r ++ t)))) (λ t e.
    of_nothing (λ t. P (word "direct" ++ (o ++ (r ++ t)))) (rw (append-nil r) (both o r (offset_some o h) (rate_some r k))) t) z) y))
  where
    P : List ℕ → Type 0
    P = Media kind.direct

    both : (o r : List ℕ) → Some OffsetText o → Some RateText r → P (word "direct" ++ (o ++ r))
    both o r a b = media (direct_text o r a.0 b.0 a.1 b.1)

stream_meant : (s : List ℕ) → rule.stream narrowed s ≡ true → Media kind.stream s
unfolding rule.stream
stream_meant = of_quoted_then (Media kind.stream) eui64 "IEEE1722=" (λ g h. media (stream_text g h))

media_ext_meant : (s : List ℕ) → rule.media_ext narrowed s ≡ true → Media kind.media_ext s
unfolding rule.media_ext
media_ext_meant =
    of_only (Media kind.media_ext) (λ s h k.
    let e = ext_some s h in
    media (media_ext_text s e.name e.value e.is k))

media_meant : (k : MediaKind) (s : List ℕ) → mediaclock_of narrowed k s ≡ true → Media k s
media_meant kind.sender = sender_meant
media_meant kind.direct = direct_meant
media_meant kind.stream = stream_meant
media_meant kind.media_ext = media_ext_meant

-- mediaclk
abbrev Source : SourceKind → List ℕ → Type 0
Source = Meant SourceText source_kind

-- an id, a space, and the clock behind them
id_then : (k : MediaKind) (t y : List ℕ) (a : Tag) → TagText t a → Media k y → Source (k with_id tag_kind a) (word "id=" ++ ((t ++ 32 ∷ []) ++ y))
id_then k t y a h c =
    rw (append_assoc t (32 ∷ []) y, ← c.of_kind)
    (record {
      meaning = _;
      text = tagged_text t y a c.meaning h c.text;
      of_kind = refl;
    })

pub source_meant : (k : SourceKind) (s : List ℕ) → mediaclk_of narrowed k s ≡ true → Source k s
source_meant (k with_id kind.no_id) =
    of_only (Source (k with_id kind.no_id)) (λ s h e.
    let c = media_meant k s h in
    record {
      meaning = _;
      text = untagged_text s c.meaning c.text e;
      of_kind = ap (λ (k : MediaKind). k with_id kind.no_id) c.of_kind;
    })
source_meant (k with_id kind.plain_id) =
    of_then P (quoted narrowed "id=" then tag narrowed then sp) (mediaclock_of narrowed k) (λ x y h j.
    of_quoted_then (λ z. P (z ++ y)) (tag narrowed then sp) "id="
    (of_then (λ z. P (word "id=" ++ (z ++ y))) (tag narrowed) sp (λ u v l.
    of_byte (λ z. P (word "id=" ++ ((u ++ z) ++ y))) 32 (id_then k u y _ (plain_text u l) (media_meant k y j)) v)) x h)
  where
    P : List ℕ → Type 0
    P = Source (k with_id kind.plain_id)
source_meant (k with_id kind.src_id) =
    of_then P (quoted narrowed "id=" then quoted narrowed "src:" then tag narrowed then sp) (mediaclock_of narrowed k) (λ x y h j.
    of_quoted_then (λ z. P (z ++ y)) (quoted narrowed "src:" then tag narrowed then sp) "id="
    (of_quoted_then (λ z. P (word "id=" ++ (z ++ y))) (tag narrowed then sp) "src:"
    (of_then (λ z. P (word "id=src:" ++ (z ++ y))) (tag narrowed) sp (λ u v l.
    of_byte (λ z. P (word "id=src:" ++ ((u ++ z) ++ y))) 32
    (id_then k (word "src:" ++ u) y _ (src_text u l) (media_meant k y j)) v))) x h)
  where
    P : List ℕ → Type 0
    P = Source (k with_id kind.src_id)
