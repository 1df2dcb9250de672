-- The code's own shape, which only contracts of private functions and the test `alike` cite: what a record says, in one shape for both attributes.
-- Its kinds and numbers, and its texts, stand each in a column of its own. What a clock does not have is 0 or no bytes there; whether it is absent, or
-- present and empty, is a kind. Nothing is lost: records that say the same mean the same (proofs/Equality.antt).
use Rattle.std.specs.Prelude.{ℕ, suc, List, [], Bool, ◌&&◌, eqb, Option, Some, None}
use Rattle.text.specs.Word.{same}
use Rattle.meaning.specs.Meaning.{Version, Server, Ratio, Tag, RefMeaning, MediaMeaning, SourceMeaning}
use Rattle.meaning.specs.Meaning as means

pub record Flat : Type 0 where
  -- which clock, and which form of it: a PTP version, or how an id is tagged
  pub kind : ℕ
  pub form : ℕ
  -- its numbers, in order
  pub first : ℕ
  pub second : ℕ
  pub third : ℕ
  -- its texts: a host or a tag, then the others in order
  pub head : List ℕ
  pub name : List ℕ
  pub value : List ℕ

abbrev pub says : ℕ → ℕ → ℕ → ℕ → ℕ → List ℕ → List ℕ → List ℕ → Flat
says k f a b c h n v =
    record { kind = k; form = f; first = a; second = b; third = c; head = h; name = n; value = v }

-- a number that may be absent: 0, or one more than the number
abbrev pub or_none : Option ℕ → ℕ
or_none None = 0
or_none (Some n) = suc n

-- a text that may be absent: whether it is there, and its bytes
abbrev pub present : Option (List ℕ) → ℕ
present None = 0
present (Some s) = 1

abbrev pub bytes : Option (List ℕ) → List ℕ
bytes None = []
bytes (Some s) = s

-- an extension: its name, and its value where it has one
abbrev pub extension_says : ℕ → ℕ → List ℕ → List ℕ → Option (List ℕ) → Flat
extension_says k f h n v = says k f (present v) 0 0 h n (bytes v)

-- PTP: which version, and its own name
abbrev pub version_kind : Version → ℕ
version_kind means.ieee1588_2002 = 0
version_kind means.ieee1588_2008 = 1
version_kind means.ieee802_1as_2011 = 2
version_kind (means.own_version s) = 3

abbrev pub version_name : Version → List ℕ
version_name means.ieee1588_2002 = []
version_name means.ieee1588_2008 = []
version_name means.ieee802_1as_2011 = []
version_name (means.own_version s) = s

-- traceable; a GMID alone; with a domain's name; with a domain's number
abbrev pub server_says : ℕ → List ℕ → Server → Flat
server_says f n means.traceable = says 2 f 0 0 0 [] n []
server_says f n (means.gmid g None) = says 2 f 1 g 0 [] n []
server_says f n (means.gmid g (Some (means.name s))) = says 2 f 2 g 0 [] n s
server_says f n (means.gmid g (Some (means.number d))) = says 2 f 3 g d [] n []

-- ts-refclk: the head is the host
abbrev pub clock_says : RefMeaning → Flat
clock_says means.ntp_traceable = says 0 0 0 0 0 [] [] []
clock_says (means.ntp_host h port) = says 1 0 (or_none port) 0 0 h [] []
clock_says (means.ptp v s) = server_says (version_kind v) (version_name v) s
clock_says means.gps = says 3 0 0 0 0 [] [] []
clock_says means.gal = says 4 0 0 0 0 [] [] []
clock_says means.glonass = says 5 0 0 0 0 [] [] []
clock_says means.local = says 6 0 0 0 0 [] [] []
clock_says means.private_standard = says 7 0 0 0 0 [] [] []
clock_says means.private_traceable = says 8 0 0 0 0 [] [] []
clock_says (means.ref_ext n v) = extension_says 9 0 [] n v

-- mediaclk: the head is the tag
abbrev pub tag_kind : Option Tag → ℕ
tag_kind None = 0
tag_kind (Some (means.plain_tag t)) = 1
tag_kind (Some (means.src_tag t)) = 2

abbrev pub tag_bytes : Option Tag → List ℕ
tag_bytes None = []
tag_bytes (Some (means.plain_tag t)) = t
tag_bytes (Some (means.src_tag t)) = t

abbrev pub rate_says : ℕ → ℕ → List ℕ → Option Ratio → Flat
rate_says f a t None = says 1 f a 0 0 t [] []
rate_says f a t (Some (means.ratio n d)) = says 1 f a (suc n) d t [] []

abbrev pub media_says : ℕ → List ℕ → MediaMeaning → Flat
media_says f t means.sender = says 0 f 0 0 0 t [] []
media_says f t (means.direct offset rate) = rate_says f (or_none offset) t rate
media_says f t (means.stream n) = says 2 f n 0 0 t [] []
media_says f t (means.media_ext n v) = extension_says 3 f t n v

abbrev pub source_says : SourceMeaning → Flat
source_says (means.media_source id clock) = media_says (tag_kind id) (tag_bytes id) clock

-- two shapes are equal column by column; how the heads are compared is a parameter
unfoldable pub same_numbers : Flat → Flat → Bool
same_numbers x y =
    eqb x.kind y.kind && (eqb x.form y.form && (eqb x.first y.first && (eqb x.second y.second && eqb x.third y.third)))

-- all but the head
unfoldable pub same_behind : Flat → Flat → Bool
same_behind x y = same_numbers x y && (same x.name y.name && same x.value y.value)

unfoldable pub alike_flat : (List ℕ → List ℕ → Bool) → Flat → Flat → Bool
alike_flat heads x y = heads x.head y.head && same_behind x y
