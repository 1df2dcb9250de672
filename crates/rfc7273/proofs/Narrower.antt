-- A narrowed text is a published one. Assumes nothing.
use Prim.Native.String.{String}
use Rattle.text.proofs.Bools.{and_left, or_elim, or_left, or_right}
use Rattle.abnf.specs.Rule.{Rule, ◌or◌, ◌then◌}
use Rattle.abnf.proofs.Rules.{then_within}
use Rattle.rfc7273.specs.Manner.{published, narrowed, only_in, quoted}
use Rattle.rfc7273.specs.Elsewhere.{port, hostport}
use Rattle.rfc7273.specs.Kinds.{RefKind, SourceKind, MediaKind, ◌with_id◌}
use Rattle.rfc7273.specs.Kinds as kind
use Rattle.rfc7273.specs.Grammar.{ntp, ptp_version, ptp_domain, ptp_server, ptp, private, ext_bytes, ext_value, clksrc_ext, clksrc_of, integer, rate}
use Rattle.rfc7273.specs.Grammar.{offset, sender, direct, stream, media_ext, mediaclock_of, tag, mediaclk_of}
use Rattle.rfc7273.specs.Taken.{Narrower}

pub record Within (p q : Rule) : Type 0 where
  pub within : Narrower p q

pub within_same : {p : Rule} → Within p p
within_same = record { within = λ s h. h }

pub within_or : {p q u v : Rule} → Within p u → Within q v → Within (p or q) (u or v)
unfolding ◌or◌
within_or {p} {q} {u} {v} f g = record { within = λ s h. or_elim (p s) (q s) (λ e. or_left (v s) (f.within s e)) (λ e. or_right (u s) (g.within s e)) h }

pub within_then : {p q u v : Rule} → Within p u → Within q v → Within (p then q) (u then v)
within_then {p} {q} {u} {v} f g = record { within = then_within p q u v f.within g.within }

within_only : (p q u : Rule) → Within p u → Within (only_in narrowed p q) (only_in published u q)
unfolding only_in
within_only p q u f = record { within = λ s h. f.within s (and_left (p s) (q s) h) }

within_quoted : (w : String) → Within (quoted narrowed w) (quoted published w)
unfolding quoted
within_quoted w = within_only _ _ _ within_same

ruleset laws = (within_same, within_or, within_then, within_only, within_quoted)

within_ref : (k : RefKind) → Within (clksrc_of narrowed k) (clksrc_of published k)
unfolding ntp ptp_version ptp_domain ptp_server ptp private ext_bytes ext_value clksrc_ext port hostport
within_ref kind.ntp = search laws depth 20
within_ref kind.ptp = search laws depth 20
within_ref kind.gps = search laws
within_ref kind.gal = search laws
within_ref kind.glonass = search laws
within_ref kind.local = search laws
within_ref kind.private = search laws depth 20
within_ref kind.ref_ext = search laws depth 20

pub ref_narrower : (k : RefKind) → Narrower (clksrc_of narrowed k) (clksrc_of published k)
ref_narrower k = (within_ref k).within

within_media : (k : MediaKind) → Within (mediaclock_of narrowed k) (mediaclock_of published k)
unfolding integer rate offset sender direct stream media_ext ext_bytes ext_value
within_media kind.sender = search laws depth 20
within_media kind.direct = search laws depth 20
within_media kind.stream = search laws depth 20
within_media kind.media_ext = search laws depth 20

within_source : (k : SourceKind) → Within (mediaclk_of narrowed k) (mediaclk_of published k)
unfolding tag
within_source (k with_id kind.no_id) = within_only _ _ _ (within_media k)
within_source (k with_id kind.plain_id) = within_then (search laws depth 20) (within_media k)
within_source (k with_id kind.src_id) = within_then (search laws depth 20) (within_media k)

pub source_narrower : (k : SourceKind) → Narrower (mediaclk_of narrowed k) (mediaclk_of published k)
source_narrower k = (within_source k).within
