-- ts-refclk: a text reads as what it means. Assumes nothing.
use Rattle.std.specs.Prelude.{Ok, Option}
use Prim.Native.Nat.{ℕ, ◌≤◌}
use mathlib.Core.Path.{◌≡◌, refl, ap}
use mathlib.Core.Bool.{true, false}
use mathlib.Core.List.{List, ◌∷◌, ◌++◌}
use lib.ListN.{length}
use Rattle.text.specs.Word.{word, same, starts}
use Rattle.text.proofs.Ascii.{ascii}
use Rattle.text.proofs.Bools.{by_bool, clash, neither}
use Rattle.text.proofs.Cuts.{same_eq}
use Rattle.abnf.specs.Rule.{Rule, nothing, range, ◌or◌, ◌then◌, ◌then_many◌}
use Rattle.utf8.specs.Utf8.{utf8_of}
use Rattle.utf8.proofs.Text.{utf8_append, utf8_all_ascii}
use Rattle.clock.specs.Records.{ntp, clock_source_ext}
use Rattle.clock.specs.declared.ReferenceClock.{ReferenceClock}
use Rattle.clock.specs.declared.ReferenceClock.TheVariants as clock
use Rattle.clock.specs.declared.PrivateSource.TheVariants as private
use Rattle.meaning.specs.Domain.{bare}
use Rattle.meaning.specs.ReferenceClock.{clock_of, reference_clock_of, read_reference_clock}
use Rattle.meaning.specs.Meaning.{RefMeaning, ref_ext, ref_meaning}
use Rattle.meaning.proofs.Told.{guarded_well}
use Rattle.rfc7273.specs.Manner.{narrowed, only_in}
use Rattle.rfc7273.specs.Elsewhere.{token_char, token}
use Rattle.rfc7273.specs.Grammar.{ext_bytes, ext_value, left_to_ref_ext}
use Rattle.rfc7273.specs.Means.{ExtText, RefText, ntp_text_lem, ntp_traceable_text, ptp_text, gps_text, gal_text, glonass_text, local_text}
use Rattle.rfc7273.specs.Means.{private_text, private_traceable_text, ref_ext_text}
use Rattle.rfc7273.specs.Taken.{RefReads}
use Rattle.rfc7273.proofs.Laws.{not_so}
use Rattle.rfc7273.proofs.Texts.{ext_text}
use Rattle.rfc7273.proofs.Extension.{ext_cut, ext_reads}
use Rattle.rfc7273.proofs.Ntp as n
use Rattle.rfc7273.proofs.Ptp as p

-- a text that is to be accepted as a record that means m
abbrev pub As : List ℕ → RefMeaning → Type 0
As s m = length s ≤ 1024 → RefReads s m

pub by_rules : (s : List ℕ) (m : RefMeaning) (c : ReferenceClock) → utf8_of s ≡ (Ok tt) → clock_of bare s ≡ Ok c → ref_meaning s c ≡ m → As s m
unfolding read_reference_clock reference_clock_of
by_rules s m c w e k h = record { clock = c; accepted = rw (guarded_well s (clock_of bare s) h w, e); means = k }

-- the whole words
whole : (s : List ℕ) (c : ReferenceClock) → ascii s ≡ true → clock_of bare s ≡ Ok c → As s (ref_meaning s c)
whole s c a e = by_rules s (ref_meaning s c) c (utf8_all_ascii s a) e refl

-- "ntp=" and "ptp="
behind_ntp : (t : List ℕ) (m : RefMeaning) → n.Server t m → As (word "ntp=" ++ t) m
unfolding clock_of same ref_meaning
behind_ntp t m r =
    let s = word "ntp=" ++ t in
    let k = r.read s refl in
    by_rules s m (clock.Ntp (ntp k.made))
    (utf8_append (word "ntp=") t (utf8_all_ascii (word "ntp=") refl) r.well) (rw k.is) k.tells

behind_ptp : (t : List ℕ) (m : RefMeaning) → p.Source t m → As (word "ptp=" ++ t) m
unfolding clock_of same ref_meaning
behind_ptp t m r =
    let s = word "ptp=" ++ t in
    let k = r.read 4 s refl in
    by_rules s m (clock.Ptp k.made)
    (utf8_append (word "ptp=") t (utf8_all_ascii (word "ptp=") refl) r.well) (rw k.is) k.tells

-- an extension that no rule before it takes
abbrev extension : Rule
extension = token then ext_value narrowed

not_private : extension (word "private:traceable") ≡ false
unfolding ext_bytes ext_value token token_char only_in nothing range ◌or◌ ◌then◌ ◌then_many◌
not_private = refl

no_colon : (s : List ℕ) → extension s ≡ true → same s (word "private:traceable") ≡ false
no_colon s h =
    by_bool (same s (word "private:traceable")) (λ e. clash (cc (not_private, ap extension (same_eq s (word "private:traceable") e)))) (λ e. e)

as_extension : (s n : List ℕ) (x : Option (List ℕ)) → ExtText s n x → left_to_ref_ext s ≡ true → As s (ref_ext n x)
unfolding clock_of ref_meaning
as_extension s n x t k =
    let a = neither (starts (word "ntp=") s) _ (not_so _ k) in
    let b = neither (starts (word "ptp=") s) _ a.1 in
    let c = neither (same s (word "gps")) _ b.1 in
    let d = neither (same s (word "gal")) _ c.1 in
    let e = neither (same s (word "glonass")) _ d.1 in
    let f = neither (same s (word "local")) (same s (word "private")) e.1 in
    let q = ext_cut t in
    let r = ext_reads clock_source_ext (λ w i. ref_meaning w (clock.Ext i)) ref_ext (λ w n x. refl) 11 0 s n x q s refl in
    by_rules s (ref_ext n x) (clock.Ext r.made) q.well
    (simp (a.0, b.0, c.0, d.0, e.0, f.0, f.1, no_colon s (ext_text t), r.is)) r.tells

pub ref_read : {s : List ℕ} {m : RefMeaning} → RefText s m → As s m
unfolding clock_of same ref_meaning
ref_read (ntp_text_lem t h q k) = behind_ntp t _ (n.hostport_read k)
ref_read ntp_traceable_text = behind_ntp (word "/traceable/") _ n.traceable_read
ref_read (ptp_text v s a b t u) = behind_ptp (v ++ 58 ∷ s) _ (p.ptp_read t u)
ref_read gps_text = whole (word "gps") clock.Gps refl refl
ref_read gal_text = whole (word "gal") clock.Gal refl refl
ref_read glonass_text = whole (word "glonass") clock.Glonass refl refl
ref_read local_text = whole (word "local") clock.Local refl refl
ref_read private_text = whole (word "private") (clock.Private private.Standard) refl refl
ref_read private_traceable_text = whole (word "private:traceable") (clock.Private private.Traceable) refl refl
ref_read (ref_ext_text s n x t k) = as_extension s n x t k
