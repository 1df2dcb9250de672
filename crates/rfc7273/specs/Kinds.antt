-- The kinds of a meaning, which are the alternatives of the RFC's grammar, and what reading says of a text: its kind, or the number of its refusal.
use Rattle.std.specs.Prelude.{ℕ, List, Result, Ok, Err, Option, Some, None}
use Rattle.meaning.specs.ReferenceClock.{read_reference_clock}
use Rattle.meaning.specs.MediaClock.{read_media_clock_source}
use Rattle.meaning.specs.Meaning.{RefMeaning, ref_meaning, Tag, MediaMeaning, SourceMeaning, media_meaning}
use Rattle.meaning.specs.Meaning as means
use Rattle.clock.specs.declared.ReferenceClock.{ReferenceClock}
use Rattle.clock.specs.declared.Refusal.{Refusal}
use Rattle.mediarecord.specs.declared.MediaClockSource.{MediaClockSource}

pub data Says (K : Type 0) : Type 0 where
  accepted_as : K → Says K
  refused_with : ℕ → Says K

-- ts-refclk
pub data RefKind : Type 0 where
  ntp ptp gps gal glonass local private ref_ext : RefKind

abbrev pub ref_kind : RefMeaning → RefKind
ref_kind means.ntp_traceable = ntp
ref_kind (means.ntp_host h p) = ntp
ref_kind (means.ptp v s) = ptp
ref_kind means.gps = gps
ref_kind means.gal = gal
ref_kind means.glonass = glonass
ref_kind means.local = local
ref_kind means.private_standard = private
ref_kind means.private_traceable = private
ref_kind (means.ref_ext n x) = ref_ext

abbrev pub ref_said : List ℕ → Result ReferenceClock Refusal → Says RefKind
ref_said s (Ok c) = accepted_as (ref_kind (ref_meaning s c))
ref_said s (Err r) = refused_with r.number

unfoldable pub ref_says : List ℕ → Says RefKind
ref_says s = ref_said s (read_reference_clock s)

-- mediaclk: the kind of its id, and that of its clock
pub data IdKind : Type 0 where
  no_id plain_id src_id : IdKind

pub data MediaKind : Type 0 where
  sender direct stream media_ext : MediaKind

infix 75 ◌with_id◌
pub data SourceKind : Type 0 where
  ◌with_id◌ : MediaKind → IdKind → SourceKind

abbrev pub tag_kind : Tag → IdKind
tag_kind (means.plain_tag t) = plain_id
tag_kind (means.src_tag t) = src_id

abbrev pub id_kind : Option Tag → IdKind
id_kind None = no_id
id_kind (Some t) = tag_kind t

abbrev pub media_kind : MediaMeaning → MediaKind
media_kind means.sender = sender
media_kind (means.direct o r) = direct
media_kind (means.stream g) = stream
media_kind (means.media_ext n x) = media_ext

abbrev pub source_kind : SourceMeaning → SourceKind
source_kind (means.media_source i m) = media_kind m with_id id_kind i

abbrev pub media_said : List ℕ → Result MediaClockSource Refusal → Says SourceKind
media_said s (Ok m) = accepted_as (source_kind (media_meaning s m))
media_said s (Err r) = refused_with r.number

unfoldable pub media_says : List ℕ → Says SourceKind
media_says s = media_said s (read_media_clock_source s)
