-- What the definitions say of some values. `proofs/Examples.antt` computes them.
use Rattle.std.specs.Prelude.{ℕ, List, [], ◌∷◌, Bool, true, false}
use Rattle.text.specs.Word.{word}
use Rattle.text.specs.Place.{place}
use Rattle.text.specs.declared.Place.{Place}
use Rattle.text.specs.Example.{Example, ◌gives◌}

abbrev pub of_pair : (List ℕ → List ℕ → Bool) → List ℕ × List ℕ → Bool
of_pair f p = f p.0 p.1

-- whether two values name the same clock: numbers however they are spelled, absent and empty apart, hosts as servers are, refused never
abbrev pub pairs : List (Example (List ℕ × List ℕ) Bool)
pairs =
    (word "ntp=h:80", word "ntp=h:+080") gives true
    ∷ (word "ntp=h:80", word "ntp=h") gives false
    ∷ (word "ntp=NTP.local", word "ntp=ntp.local") gives true
    ∷ (word "ntp=h:80", word "ntp=H:81") gives false
    ∷ (word "ntp=h@", word "ntp=h`") gives false
    ∷ (word "ntp=[::1]", word "ntp=::1") gives true
    ∷ (word "ntp=[::A]:80", word "ntp=[::00a]:80") gives true
    ∷ (word "ptp=V:+1-00-00-00-00-00-00-0a:5", word "ptp=V:01-00-00-00-00-00-00-0A:005") gives true
    ∷ (word "ptp=V:01-00-00-00-00-00-00-0A:5", word "ptp=W:01-00-00-00-00-00-00-0A:5") gives false
    ∷ (word "gps", word "gps") gives true
    ∷ (word "gps", word "gal") gives false
    ∷ (word "ext", word "ext=") gives false
    ∷ (word "ntp=:80", word "ntp=:80") gives false
    ∷ []

-- the place that names a value's clock
abbrev pub places : List (Example (List ℕ) Place)
places =
    word "ntp=h:80" gives place 4 1
    ∷ word "ntp=[::1]:80" gives place 5 3
    ∷ word "ntp=/traceable/" gives place 0 15
    ∷ word "ptp=IEEE1588-2008:39-A7-94-FF-FE-07-CB-D0:37" gives place 18 23
    ∷ word "ptp=V:39-A7-94-FF-FE-07-CB-D0" gives place 6 23
    ∷ word "ptp=V:traceable" gives place 0 15
    ∷ word "private:traceable" gives place 0 17
    ∷ word "name=a:b" gives place 0 8
    ∷ word "ntp=:80" gives place 0 0
    ∷ word "" gives place 0 0
    ∷ []
