-- The published grammar in a form that is quick to compute: bytes of a class are tested one by one, and what has a fixed length is cut off there.
-- Assumes nothing.
use Prim.Native.Nat.{ℕ, zero, suc, ◌+◌}
use Prim.Native.String.{String}
use mathlib.Core.Path.{◌≡◌, refl, sym, ap, ◌∙◌, fun_ext}
use mathlib.Core.Bool.{Bool, true, false, ◌&&◌, and-true, and-false}
use mathlib.Core.List.{List, [], ◌∷◌, ◌++◌, map}
use native.Mathlib.Omega.{arith}
use lib.ListN.{length, take, drop, take-append-drop, length-append, length-map}
use lib.Seq.{take_at, drop_at}
use Rattle.text.specs.Word.{word}
use Rattle.text.proofs.Bools.{clash, both, both_ways, and_left, and_right}
use Rattle.text.proofs.Cuts.{same_eq}
use Rattle.abnf.specs.Rule.{Rule, nothing, range, byte, letter, ◌or◌, ◌then◌, ◌then_many◌, maybe, times, many}
use Rattle.abnf.proofs.Rules.{then_assoc, nothing_then, then_split, then_join, cut, cut_then}
use Rattle.abnf.proofs.Many.{many_and, many_cons}
use Rattle.ipaddr.specs.Address.{digit, hexdig}
use Rattle.rfc7273.proofs.Parts.{eui_read}
use Rattle.rfc7273.proofs.Media.{base64_space}
use Rattle.rfc7273.specs.Manner.{published, only_in, small, quoted}
use Rattle.rfc7273.specs.Elsewhere.{sp, pos_digit, token_char, token, byte_string, base64, hostport}
use Rattle.rfc7273.specs.Kinds.{RefKind, MediaKind, SourceKind, ◌with_id◌}
use Rattle.rfc7273.specs.Kinds as kind
use Rattle.rfc7273.specs.Grammar.{eui64, ntp, ptp_version, ptp_domain, ptp_server, ptp, private, ext_bytes, ext_value, clksrc_ext, clksrc_of, integer, rate}
use Rattle.rfc7273.specs.Grammar.{offset, sender, direct, stream, media_ext, mediaclock_of, tag, mediaclk_of}

-- a class of bytes: its texts have one byte
pub record Class (p : Rule) : Type 0 where
  pub none : p [] ≡ false
  pub two : (x y : ℕ) (t : List ℕ) → p (x ∷ y ∷ t) ≡ false

class_range : (a z : ℕ) → Class (range a z)
unfolding range
class_range a z = record { none = refl; two = λ x y t. refl }

class_or : {p q : Rule} → Class p → Class q → Class (p or q)
unfolding ◌or◌
class_or f g = record { none = rw (f.none, g.none); two = λ x y t. rw (f.two x y t, g.two x y t) }

unfoldable pub each : Rule → Rule
each p [] = true
each p (x ∷ s) = p (x ∷ []) && each p s

-- one byte of r, and any number of p
unfoldable pub first : Rule → Rule → Rule
first r p [] = false
first r p (x ∷ s) = r (x ∷ []) && each p s

module _ (p : Rule) (c : Class p) where
  after : (r : Rule) → Class r → (x : ℕ) (s : List ℕ) → ((λ t. r (x ∷ t)) then_many p) s ≡ (r (x ∷ []) && many p s)
  unfolding nothing
  after r d x s = ap (λ (q : Rule). (q then_many p) s) (fun_ext one) ∙ many_and p (r (x ∷ [])) nothing s
    where
      one : (t : List ℕ) → r (x ∷ t) ≡ (r (x ∷ []) && nothing t)
      one [] = sym (and-true (r (x ∷ [])))
      one (y ∷ t) = d.two x y t ∙ sym (and-false (r (x ∷ [])))

  many_each : (s : List ℕ) → many p s ≡ each p s
  unfolding ◌then_many◌ nothing each
  many_each [] = refl
  many_each (x ∷ s) = many_cons p x s ∙ after p c x s ∙ ap (λ (b : Bool). p (x ∷ []) && b) (many_each s)

  first_is : (r : Rule) → Class r → (r then_many p) ≡ first r p
  first_is r d = fun_ext go
    where
      go : (s : List ℕ) → (r then_many p) s ≡ first r p s
      go [] = unfold ◌then_many◌ first in d.none
      go (x ∷ s) = unfold ◌then_many◌ first in rw d.none (after r d x s ∙ ap (λ (b : Bool). r (x ∷ []) && b) (many_each s))

-- a rule whose texts all have n bytes
abbrev Fixed : ℕ → Rule → Type 0
Fixed n p = (s : List ℕ) → p s ≡ true → length s ≡ n

unfoldable pub front : ℕ → Rule → Rule → Rule
front n p q s = p (take n s) && q (drop n s)

front_is : (n : ℕ) (p q : Rule) → Fixed n p → (p then q) ≡ front n p q
unfolding front
front_is n p q f = fun_ext (λ s. both_ways ((p then q) s) (p (take n s) && q (drop n s)) (there s) (back s))
  where
    joint : (x y : List ℕ) → p x ≡ true → q y ≡ true → length x ≡ n → (p (take n (x ++ y)) && q (drop n (x ++ y))) ≡ true
    joint x y h k l = rw (take_at x y n l, drop_at x y n l) (both h k)

    there : (s : List ℕ) → (p then q) s ≡ true → (p (take n s) && q (drop n s)) ≡ true
    there s h =
        let k = then_split p q s h in
        rw k.is at (joint k.front k.back k.first k.second (f k.front k.first))

    back : (s : List ℕ) → (p (take n s) && q (drop n s)) ≡ true → (p then q) s ≡ true
    back s h =
        ap (p then q) (sym (take-append-drop n s))
        ∙ then_join p q (take n s) (drop n s) (and_left (p (take n s)) (q (drop n s)) h) (and_right (p (take n s)) (q (drop n s)) h)

-- words, and an EUI-64
fixed_word : (w : String) → Fixed (length (word w)) (quoted published w)
unfolding quoted only_in
fixed_word w s h = sym (length-map s small) ∙ ap length (same_eq (map small s) (map small (word w)) h) ∙ length-map (word w) small

fixed_hexdig : Fixed 1 hexdig
unfolding hexdig range ◌or◌
fixed_hexdig [] h = clash (cc)
fixed_hexdig (x ∷ []) h = refl
fixed_hexdig (x ∷ y ∷ s) h = clash (cc)

fixed_byte : (c : ℕ) → Fixed 1 (byte c)
unfolding range
fixed_byte c [] h = clash (cc)
fixed_byte c (x ∷ []) h = refl
fixed_byte c (x ∷ y ∷ s) h = clash (cc)

fixed_nothing : Fixed 0 nothing
unfolding nothing
fixed_nothing [] h = refl
fixed_nothing (x ∷ s) h = clash (cc)

fixed_then : (n m : ℕ) (p q : Rule) → Fixed n p → Fixed m q → Fixed (n + m) (p then q)
fixed_then n m p q f g s h =
    let k = then_split p q s h in
    sym (ap length k.is) ∙ omega (arith, length-append k.front k.back, f k.front k.first, g k.back k.second)

fixed_pair : Fixed 2 (times 2 hexdig)
unfolding times
fixed_pair = fixed_then 1 1 hexdig (hexdig then nothing) fixed_hexdig (fixed_then 1 0 hexdig nothing fixed_hexdig fixed_nothing)

abbrev segment : Rule
segment = times 2 hexdig then letter "-"

unfoldable pub segments : ℕ → Rule
segments zero = times 2 hexdig
segments (suc k) = front 3 segment (segments k)

segments_are : (k : ℕ) → (times k segment then times 2 hexdig) ≡ segments k
unfolding times segments
segments_are zero = fun_ext (nothing_then (times 2 hexdig))
segments_are (suc k) =
    fun_ext (then_assoc segment (times k segment) (times 2 hexdig))
    ∙ rw (segments_are k) (front_is 3 segment (segments k) (fixed_then 2 1 (times 2 hexdig) (letter "-") fixed_pair (fixed_byte 45)))

eui_is : eui64 ≡ segments 7
unfolding eui64
eui_is = segments_are 7

fixed_eui : Fixed 23 eui64
unfolding eui64
fixed_eui s h = (eui_read s (unfold eui64 in h)).long

-- token and byte-string
abbrev pub quick_token : Rule
quick_token = first token_char token_char

token_is : token ≡ quick_token
unfolding token token_char
token_is =
    first_is _ (search (class_range, class_or) depth 20) _ (search (class_range, class_or) depth 20)

abbrev pub string_char : Rule
string_char = range 0x01 0x09 or range 0x0B 0x0C or range 0x0E 0xFF

string_is : byte_string ≡ first string_char string_char
unfolding byte_string
string_is = first_is _ (search (class_range, class_or) depth 20) _ (search (class_range, class_or) depth 20)

abbrev text : String → Rule
text w = quoted published w

word_then : (w : String) (q : Rule) → (text w then q) ≡ front (length (word w)) (text w) q
word_then w q = front_is (length (word w)) (text w) q (fixed_word w)

-- ts-refclk
abbrev pub quick_version : Rule
quick_version = text "IEEE1588-2002" or text "IEEE1588-2008" or text "IEEE802.1AS-2011" or quick_token

abbrev pub quick_server : Rule
quick_server = front 23 (segments 7) (maybe (letter ":" then ptp_domain published)) or text "traceable"

abbrev pub quick_ext : Rule
quick_ext = quick_token then maybe (letter "=" then first string_char string_char)

abbrev pub quick_ref : RefKind → Rule
quick_ref kind.ntp = front 4 (text "ntp=") (hostport published or text "/traceable/")
quick_ref kind.ptp = front 4 (text "ptp=") (quick_version then letter ":" then quick_server)
quick_ref kind.gps = text "gps"
quick_ref kind.gal = text "gal"
quick_ref kind.glonass = text "glonass"
quick_ref kind.local = text "local"
quick_ref kind.private = front 7 (text "private") (maybe (text ":traceable"))
quick_ref kind.ref_ext = quick_ext

ptp_is : ptp published ≡ quick_ref kind.ptp
unfolding ptp ptp_version ptp_server only_in
ptp_is =
    word_then "ptp=" _
    ∙ rw (token_is, front_is 23 eui64 (maybe (letter ":" then ptp_domain published)) fixed_eui, eui_is)

ext_is : (token then ext_value published) ≡ quick_ext
unfolding ext_bytes ext_value only_in
ext_is = rw (token_is, string_is)

pub ref_quick : (k : RefKind) → clksrc_of published k ≡ quick_ref k
ref_quick kind.ntp = unfold ntp in word_then "ntp=" _
ref_quick kind.ptp = ptp_is
ref_quick kind.gps = refl
ref_quick kind.gal = refl
ref_quick kind.glonass = refl
ref_quick kind.local = refl
ref_quick kind.private = unfold private in word_then "private" _
ref_quick kind.ref_ext = unfold clksrc_ext only_in in ext_is

-- mediaclk
abbrev pub quick_direct : Rule
quick_direct =
    maybe (letter "=" then first digit digit)
    then maybe (sp then front 5 (text "rate=") (first pos_digit digit then letter "/" then first pos_digit digit))
    then maybe quick_token

abbrev pub quick_media : MediaKind → Rule
quick_media kind.sender = front 6 (text "sender") (maybe quick_token)
quick_media kind.direct = front 6 (text "direct") quick_direct
quick_media kind.stream = front 9 (text "IEEE1722=") (segments 7)
quick_media kind.media_ext = quick_ext

abbrev pub quick_source : SourceKind → Rule
quick_source (k with_id kind.no_id) = quick_media k
quick_source (k with_id kind.plain_id) = front 3 (text "id=") (cut 32 base64 (quick_media k))
quick_source (k with_id kind.src_id) = front 3 (text "id=") (front 4 (text "src:") (cut 32 base64 (quick_media k)))

direct_is : direct published ≡ quick_media kind.direct
unfolding direct rate integer offset only_in
direct_is =
    word_then "direct" _
    ∙ rw (
      token_is,
      first_is digit (class_range 48 57) digit (class_range 48 57),
      first_is digit (class_range 48 57) pos_digit (class_range 49 57),
      word_then "rate=" (first pos_digit digit then letter "/" then first pos_digit digit),
    )

media_quick : (k : MediaKind) → mediaclock_of published k ≡ quick_media k
media_quick kind.sender = unfold sender only_in in (word_then "sender" _ ∙ rw token_is)
media_quick kind.direct = direct_is
media_quick kind.stream = unfold stream in (word_then "IEEE1722=" _ ∙ rw eui_is)
media_quick kind.media_ext = unfold media_ext only_in in ext_is

tag_then : (q r : Rule) → q ≡ r → ((tag published then sp) then q) ≡ cut 32 base64 r
unfolding tag only_in
tag_then q r e = fun_ext (then_assoc base64 sp q) ∙ fun_ext (cut_then 32 base64 q base64_space.free) ∙ rw e

pub source_quick : (k : SourceKind) → mediaclk_of published k ≡ quick_source k
source_quick (k with_id kind.no_id) = unfold only_in in media_quick k
source_quick (k with_id kind.plain_id) =
    fun_ext (then_assoc (text "id=") _ (mediaclock_of published k))
    ∙ rw (tag_then (mediaclock_of published k) (quick_media k) (media_quick k)) (word_then "id=" _)
source_quick (k with_id kind.src_id) =
    fun_ext (then_assoc (text "id=") _ (mediaclock_of published k))
    ∙ ap (λ (r : Rule). text "id=" then r) (fun_ext (then_assoc (text "src:") _ (mediaclock_of published k)))
    ∙ rw (tag_then (mediaclock_of published k) (quick_media k) (media_quick k), word_then "src:" (cut 32 base64 (quick_media k))) (word_then "id=" _)
