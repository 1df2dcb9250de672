-- What the definitions say of some records.
use Rattle.std.specs.Prelude.{ℕ, refl, List, [], ◌∷◌, true, false, eqb, None, Some}
use Rattle.text.specs.Example.{◌gives◌, Each}
use Rattle.text.specs.Word.{word, same}
use Rattle.text.specs.Place.{place, bytes_at}
use Rattle.text.specs.declared.Place.{Place}
use Rattle.clock.specs.Records.{ntp}
use Rattle.clock.specs.declared.NtpServerAddr.TheVariants.{HostPort}
use Rattle.clock.specs.declared.ReferenceClock.TheVariants.{Ntp}
use Rattle.meaning.specs.Meaning.{RefMeaning, ref_meaning, ntp_host, ptp, own_version, ieee1588_2008, traceable, gmid, name, number, gps, gal, ref_ext}
use Rattle.hostprint.specs.Mixed.{mixed, mixed_text}
use Rattle.equal.specs.Fingerprint.{mixed_numbers, columns, fingerprint}
use Rattle.equal.specs.Private.Flat.{same_numbers, same_behind, alike_flat}
use Rattle.equal.specs.Private.Test.{alike}

-- absent is not empty, and a port that is absent is none that is 0
clocks : Each (λ (p : RefMeaning × RefMeaning). alike same p.0 p.1) (
    (gps, gps) gives true
    ∷ (gps, gal) gives false
    ∷ (ntp_host (word "h") (Some 80), ntp_host (word "h") (Some 80)) gives true
    ∷ (ntp_host (word "h") None, ntp_host (word "h") (Some 0)) gives false
    ∷ (ntp_host (word "h") None, ntp_host (word "H") None) gives false
    ∷ (ptp (own_version (word "V")) (gmid 7 None), ptp (own_version (word "V")) (gmid 7 None)) gives true
    ∷ (ptp (own_version (word "V")) traceable, ptp ieee1588_2008 traceable) gives false
    ∷ (ptp ieee1588_2008 (gmid 7 (Some (number 5))), ptp ieee1588_2008 (gmid 7 (Some (name (word "5"))))) gives false
    ∷ (ref_ext (word "x") None, ref_ext (word "x") (Some [])) gives false
    ∷ [])
unfolding alike alike_flat same_behind same_numbers same
clocks = refl

-- where all hosts are taken for one, everything else still counts
hosts : Each (λ (p : RefMeaning × RefMeaning). alike (λ s t. true) p.0 p.1) (
    (ntp_host (word "h") None, ntp_host (word "g") None) gives true
    ∷ (ntp_host (word "h") None, ntp_host (word "g") (Some 80)) gives false
    ∷ (ref_ext (word "x") None, ref_ext (word "y") None) gives false
    ∷ [])
unfolding alike alike_flat same_behind same_numbers same
hosts = refl

-- the bytes count and not their places, and a place that reaches outside its value has the bytes that are there
abbrev host_at : List ℕ × Place → RefMeaning
host_at p = ref_meaning p.0 (Ntp (ntp (HostPort p.1 None)))

places : Each (λ (p : (List ℕ × Place) × (List ℕ × Place)). alike same (host_at p.0) (host_at p.1)) (
    ((word "ntp=h", place 4 1), (word "h", place 0 1)) gives true
    ∷ ((word "ntp=h", place 4 1), (word "ntp=h", place 4 9)) gives true
    ∷ ((word "ntp=h", place 4 1), (word "ntp=g", place 4 1)) gives false
    ∷ [])
unfolding ref_meaning bytes_at alike alike_flat same_behind same_numbers same
places = refl

-- respelled, a record keeps its fingerprint; one that differs in any part has another, hosts printed here by their bytes
abbrev printed : RefMeaning → ℕ
printed m = fingerprint (mixed_text 0) m

prints : Each (λ (p : RefMeaning × RefMeaning). eqb (printed p.0) (printed p.1)) (
    (host_at (word "ntp=h", place 4 1), host_at (word "h", place 0 1)) gives true
    ∷ (ntp_host (word "h") None, ntp_host (word "g") None) gives false
    ∷ (ntp_host (word "h") None, ntp_host (word "h") (Some 0)) gives false
    ∷ (ptp ieee1588_2008 (gmid 7 None), ptp ieee1588_2008 (gmid 8 None)) gives false
    ∷ (ptp ieee1588_2008 (gmid 7 None), ptp ieee1588_2008 (gmid 4294967303 None)) gives false
    ∷ (ptp ieee1588_2008 (gmid 7 None), ptp ieee1588_2008 (gmid 7 (Some (number 0)))) gives false
    ∷ (ptp ieee1588_2008 (gmid 7 (Some (number 5))), ptp ieee1588_2008 (gmid 7 (Some (name (word "5"))))) gives false
    ∷ (ref_ext (word "x") None, ref_ext (word "x") (Some [])) gives false
    ∷ (ref_ext (word "xy") (Some (word "z")), ref_ext (word "x") (Some (word "yz"))) gives false
    ∷ [])
unfolding ref_meaning bytes_at fingerprint columns mixed_numbers mixed_text mixed
prints = refl
