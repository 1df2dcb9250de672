-- One law for each way out of this crate's functions, and the invariant of the loop over a fragment. Assumes nothing.
use Rattle.std.specs.Prelude.{Ok, Err}
use Prim.Native.Nat.{ℕ, suc, ◌+◌, ◌*◌, ◌-◌, ◌^◌, ◌≤◌, ◌<◌, min}
use mathlib.Core.Path.{◌≡◌, refl, sym, ap, ◌∙◌}
use mathlib.Core.List.{List, [], ◌∷◌, ◌++◌, append_assoc, append-nil}
use mathlib.Core.Bool.{Bool, true, false}
use native.Mathlib.Nat.{zero-add}
use native.Mathlib.Omega.{arith}
use lib.Dec.{eqb, leb, ltb}
use lib.ListN.{length, take, drop, length-append, length-take, length-drop, take-append-drop}
use lib.Seq.{sets, sets-eq, length-sets, append_snoc, take_all, take_at, take-append-add, length-take-le, drop-drop, drop-length}
use borrow.Rule.Slice.PartMut.{put_mid, Post-is}
use mir.Val.{Fits}
use mir.Syntax.{w64}
use borrow.Author.Tests.{ne_eqb, le-leb, lt-leb, lt-ltb, le-ltb, leb-true, leb-false, ltb-true, ltb-false}
use Rattle.text.specs.Find.{before}
use Rattle.text.specs.Word.{ends_in}
use Rattle.text.proofs.Bools.{by_bool}
use Rattle.text.proofs.Cuts.{before_le}
use Rattle.text.proofs.Left.{rest, rest_is}
use Rattle.room.specs.Put.{Put}
use Rattle.room.proofs.Laws.{put_length, put_front, sets_append, sets_behind}
use Rattle.report.specs.Lines.{without_cr, ended_from, open_from, last_line}
use Rattle.report.specs.Reply.{Reply, reply_to}
use Rattle.report.specs.Report.{printed, totals_of, totals_text}
use Rattle.report.specs.Reader.{Reader, reader_of, counted, counted_all, feed_text, fed, close_text, closed}
use Rattle.report.specs.declared.Totals.{Totals}
use Rattle.report.proofs.Lines.{without_short, ended_first, open_first, ended_none, open_none, ended_alike, first_alike}
use Rattle.report.proofs.Bounds.{reply_bound}
use Rattle.report.proofs.Printed.{printed_append, printed_bound}
use Rattle.briefreply.specs.Gives.{Gives, with_front}
use Rattle.briefreply.specs.Plain.{plain, plain_reply}
use Rattle.briefreply.specs.declared.ReplySize.{ReplySize}
use Rattle.briefreply.proofs.Laws.{plain_reply_lem, plain_cut}
use Rattle.lines.specs.declared.State.{State}
use Rattle.lines.specs.declared.Unfed.{Unfed}
use Rattle.lines.specs.declared.Unfed.TheVariants.{Closed, OverLimit, NoRoom}
use Rattle.lines.specs.declared.Progress.{Progress}
use Rattle.lines.specs.declared.Ran.{Ran}
use Rattle.lines.specs.View.{view, state_of, memory_at_end, memory_after}
use Rattle.lines.specs.Call.{Outcome, prints, refuses, feed_outcome, close_outcome, accepts, filling_of, room_of, Does, Feeds, Closes}
use Rattle.lines.specs.Private.Steps.{Prints, Replied, Replies, progress, Passes, Keeps, Ends, Runs, finish_text, Finishes}

-- A text at the front of a part of the room, which begins at the place `at` or at the room's end if that comes first.
module _ (t room part : List ℕ) (at from : ℕ) (f : from ≡ min at (length room)) (size : length part ≡ length (rest from room)) where
  put_back : put_mid from (length room - from) room part ≡ take from room ++ part
  put_back =
      ap (λ (x : List ℕ). take from room ++ (part ++ x)) (Post-is from (length room) room (omega arith) ∙ drop-length room)
      ∙ ap (λ (x : List ℕ). take from room ++ x) (append-nil part)

  in_part : (length t ≤ length (rest from room) → part ≡ t ++ drop (length t) (rest from room))
      → Prints t room at (at + length t) (put_mid from (length room - from) room part)
  in_part front =
      rw put_back
      (
      let n : length (rest from room) ≡ length room - from = ap length (rest_is from room) ∙ length-drop from room in
      record {
        place = refl;
        size = length-append (take from room) part ∙ omega (arith, length-take from room);
        bytes = λ h.
            let e : from ≡ at = omega arith in
            ap (λ (x : List ℕ). take from room ++ x)
            (front (omega arith) ∙ ap (λ (x : List ℕ). t ++ drop (length t) x) (rest_is from room)
            ∙ ap (λ (x : List ℕ). t ++ x) (drop-drop (length t) from room))
            ∙ sym (append_assoc (take from room) t (drop (from + length t) room))
            ∙ ap (λ (k : ℕ). take k room ++ t ++ drop (k + length t) room) e
            ∙ sym (sets-eq t room at h);
      })

-- texts one after another
pub prints_then : {s t l m r : List ℕ} {at next last : ℕ} → Prints s l at next m → Prints t m next last r → Prints (s ++ t) l at last r
prints_then {s} {t} {l} {m} {r} {at} {next} p q =
    record {
      place = omega (arith, p.place, q.place, length-append s t);
      size = q.size ∙ p.size;
      bytes = λ h.
          q.bytes (omega (arith, p.size))
          ∙ ap (λ (x : List ℕ). sets x next t) (p.bytes (omega (arith, q.place)))
          ∙ ap (λ (k : ℕ). sets (sets l at s) k t) p.place
          ∙ sym (sets_append l at s t);
    }

-- `put_line` and `put_plain`
printed_one : (l : List ℕ) → printed (l ∷ []) ≡ (reply_to l).says
unfolding printed
printed_one l = append-nil (reply_to l).says

pub reply_put : (x : Reply) (room part : List ℕ) (at from : ℕ) (a : ReplySize) → from ≡ min at (length room) → length part ≡ length (rest from room)
    → Gives x (rest from room) a part → Replied x room at a (put_mid from (length room - from) room part)
unfolding with_front
reply_put x room part at from a f size e =
    record {
      put =
          rw e.len
          (in_part x.says room part at from f size
          (λ h. e.leaves ∙ simp (le-leb (length x.says) (length (rest from room)) h)));
      kind = e.kind;
    }

-- a line that is answered is passed, once it is counted too
replies_pass : {line room after : List ℕ} {at : ℕ} {a : ReplySize} (t t₁ : Totals) → Replies line room at a after → t₁ ≡ counted t a.kind
    → Passes (line ∷ []) room (progress at t) (progress (at + a.len) t₁) after
unfolding counted_all
replies_pass {line = line} t t₁ q c = record { put = rw (printed_one line) q.put; totals = c ∙ ap (counted t) q.kind }

-- `put_ended`
without_front : (raw : List ℕ) → take (length (without_cr raw)) raw ≡ without_cr raw
unfolding without_cr
without_front raw =
    by_bool (ends_in 13 raw)
    (λ e. simp e (ap (λ (k : ℕ). take k raw) (length-take-le (length raw - 1) raw (omega arith))))
    (λ e. simp e (take_all (length raw) raw (omega arith)))

module _ (raw : List ℕ) (n : ℕ) (e : n ≡ length (without_cr raw)) where
  pub ended_length : n ≡ length (take n raw)
  ended_length = sym (length-take-le n raw (omega (arith, without_short raw)))

  pub ended_put : (room : List ℕ) (at : ℕ) (a : ReplySize) (after : List ℕ) → Replies (take n raw) room at a after → Replies (without_cr raw) room at a after
  ended_put room at a after q = rw (ap (λ (k : ℕ). take k raw) e ∙ without_front raw) at q

-- `keep`
module _ (memory part : List ℕ) (len n : ℕ) (m : length memory ≡ 4098) (h : len ≤ 4098) (e : n ≡ min (length part) (4098 - len)) where
  pub keep_length : n ≡ length (take n part)
  keep_length = sym (length-take-le n part (omega arith))

  keep_taken : take n part ≡ take (4098 - len) part
  keep_taken =
      by_bool (ltb (length part) (4098 - len))
      (λ c. let k = ltb-true (length part) (4098 - len) c in take_all n part (omega arith) ∙ sym (take_all (4098 - len) part (omega arith)))
      (λ c. let k = ltb-false (length part) (4098 - len) c in let i : n ≡ 4098 - len = omega arith in ap (λ (j : ℕ). take j part) i)

  keep_stored : sets memory len (take n part) ≡ sets memory len part
  keep_stored =
      by_bool (ltb (length part) (4098 - len))
      (λ c. let k = ltb-true (length part) (4098 - len) c in ap (sets memory len) (take_all n part (omega arith)))
      (λ c.
      let k = ltb-false (length part) (4098 - len) c in
      sym
      (ap (sets memory len) (sym (take-append-drop n part))
      ∙ sets_append memory len (take n part) (drop n part)
      ∙ sets_behind (sets memory len (take n part)) (len + length (take n part)) (drop n part)
      (omega (arith, length-sets memory len (take n part), keep_length))))

  pub keep_done : (r : ℕ) (after : List ℕ) → Put (length (take n part)) memory len (take n part) r after → Keeps memory len part r after
  keep_done r after p =
      let d : length (take len memory) ≡ len = length-take-le len memory (omega arith) in
      let f : length (take len memory ++ take n part) ≡ r = omega (arith, length-append (take len memory) (take n part), p.place, keep_length) in
      let g : len + (4098 - len) ≡ 4098 = omega arith in
      record {
        short = omega (arith, p.place, keep_length);
        begun =
            ap (take r) (p.bytes ∙ sets-eq (take n part) memory len (omega (arith, keep_length)))
            ∙ take_at (take len memory ++ take n part) (drop (len + length (take n part)) memory) r f
            ∙ ap (λ (x : List ℕ). take len memory ++ x) keep_taken
            ∙ sym (rw (d, g) at (take-append-add (take len memory) part (4098 - len)));
        stored = p.bytes ∙ keep_stored;
      }

-- `end_line`
-- a line is plain with its CR and without
without_plain : (raw : List ℕ) → plain raw ≡ true → reply_to (without_cr raw) ≡ plain_reply
unfolding without_cr
without_plain raw e =
    by_bool (ends_in 13 raw)
    (λ c. simp c (plain_reply_lem (take (length raw - 1) raw) (plain_cut raw (length raw - 1) e)))
    (λ c. simp c (plain_reply_lem raw e))

pub end_length : (memory : List ℕ) (len : ℕ) (part : List ℕ) (n : ℕ) (memory' : List ℕ) → Keeps memory len part n memory' → length memory ≡ 4098
    → n ≡ length (take n memory')
end_length memory len part n memory' k m =
    sym (length-take-le n memory' (omega (arith, k.short, ap length k.stored, length-sets memory len part)))

module _ (memory : List ℕ) (len : ℕ) (part room : List ℕ) (at : ℕ) (a : ReplySize) (room' : List ℕ) where
  pub end_whole : len ≡ 0 → Replies (without_cr part) room at a room' → Ends memory len part room at a memory room'
  end_whole e q = rw e (record { replies = q; stored = refl })

  pub end_plain : len ≡ 0 → (b : Bool) → b ≡ plain part → b ≡ true → Replied plain_reply room at a room' → Ends memory len part room at a memory room'
  end_plain e b eb h q = end_whole e (rw (← without_plain part (sym eb ∙ h)) at q)

  module _ (n : ℕ) (memory' : List ℕ) (k : Keeps memory len part n memory') where
    pub end_grown : (len ≡ 0 → ⊥) → Replies (without_cr (take n memory')) room at a room' → Ends memory len part room at a memory' room'
    end_grown e q =
        let raw = take len memory ++ part in
        record {
          replies = rw (ended_alike (take n memory') raw (ap (take 4098) k.begun ∙ first_alike raw)) at q;
          stored = k.stored ∙ sym (simp (ne_eqb len 0 e));
        }

-- lines and then others
counted_append : (t : Totals) (a b : List (List ℕ)) → counted_all (counted_all t a) b ≡ counted_all t (a ++ b)
unfolding counted_all
counted_append t [] b = refl
counted_append t (l ∷ a) b = counted_append (counted t (reply_to l).kind) a b

passes_then : {a b : List (List ℕ)} {room m after : List ℕ} {p q r : Progress} → Passes a room p q m → Passes b m q r after → Passes (a ++ b) room p r after
passes_then {a} {b} {p = p} x y =
    record {
      put = rw (printed_append a b) (prints_then x.put y.put);
      totals = y.totals ∙ ap (λ (t : Totals). counted_all t b) x.totals ∙ counted_append p.totals a b;
    }

-- `run`: the lines `done` are answered, and those that are to come, the open line and the memory are settled by what is left of the fragment
pub record Run (memory₀ : List ℕ) (begun : ℕ) (s room₀ : List ℕ) (t : Totals) (memory room : List ℕ) (past : Progress) (len i : ℕ) : Type 0 where
  pub text : length s ≤ 4294967295
  pub front : begun ≤ 4098
  pub size : length memory ≡ 4098
  pub short : len ≤ 4098
  pub within : i ≤ length s
  pub done : List (List ℕ)
  pub passes : Passes done room₀ (progress 0 t) past room
  pub lines : done ++ ended_from (take len memory) (drop i s) ≡ ended_from (take begun memory₀) s
  pub last : open_from (take len memory) (drop i s) ≡ open_from (take begun memory₀) s
  pub stored : memory_after len memory (drop i s) ≡ memory_after begun memory₀ s

pub run_start : (memory : List ℕ) (begun : ℕ) (s room : List ℕ) (t : Totals) → length memory ≡ 4098 → begun ≤ 4098 → length s ≤ 4294967295
    → Run memory begun s room t memory room (progress 0 t) begun 0
unfolding printed counted_all
run_start memory begun s room t m h l =
    record {
      text = l;
      front = h;
      size = m;
      short = h;
      within = omega arith;
      done = [];
      passes = record { put = record { place = refl; size = refl; bytes = λ k. refl }; totals = refl };
      lines = refl;
      last = refl;
      stored = refl;
    }

-- an LF at n ends the open line of s; no LF at all
module _ (len : ℕ) (memory s : List ℕ) (n : ℕ) (e : n ≡ before 10 s) where
  module _ (h : n < length s) where
    stored_first : (memory' : List ℕ) → memory' ≡ memory_at_end len memory (take n s) → memory_after 0 memory' (drop (suc n) s) ≡ memory_after len memory s
    unfolding memory_after
    stored_first memory' f =
        let o : open_from [] s ≡ open_from [] (drop (suc n) s) = rw e (open_first [] s (omega arith)) in
        let first : memory_after len memory s ≡ sets memory' 0 (open_from [] (drop (suc n) s)) =
        rw (← e, lt-ltb n (length s) h, f, o) refl in
        by_bool (ltb (before 10 (drop (suc n) s)) (length (drop (suc n) s))) (λ c. simp c (sym first))
        (λ c. simp c (sym (first ∙ ap (sets memory' 0) (open_none [] (drop (suc n) s) (ltb-false (before 10 (drop (suc n) s)) (length (drop (suc n) s)) c)))))

  module _ (h : length s ≤ n) where
    stored_none : memory_after len memory s ≡ sets memory len s
    unfolding memory_after
    stored_none = rw (← e, le-ltb n (length s) h) refl

module _ {memory₀ : List ℕ} {begun : ℕ} {s room₀ : List ℕ} {t : Totals} {memory room : List ℕ} {at : ℕ} {totals : Totals} {len i : ℕ}
    (v : Run memory₀ begun s room₀ t memory room (progress at totals) len i) where
  left : length (drop i s) ≡ length s - i
  left = length-drop i s

  -- what was printed is no longer than all that is to print
  run_most : at + 6 * (length (drop i s) + 4098) ≤ 2 ^ 46
  run_most =
      let later = ended_from (take len memory) (drop i s) in
      let n : length (printed v.done) ≤ length (printed (ended_from (take begun memory₀) s)) =
      omega (
        arith,
        ap (λ (ls : List (List ℕ)). length (printed ls)) v.lines,
        ap length (printed_append v.done later),
        length-append (printed v.done) (printed later),
      ) in
      omega (arith, v.text, v.front, v.passes.put.place, printed_bound (take begun memory₀) s, length-take begun memory₀, left)

  pub run_fits : (n : ℕ) (memory' room' : List ℕ) (a : ReplySize) → Ends memory len (take n (drop i s)) room at a memory' room' → Fits w64 (at + a.len)
  run_fits n memory' room' a w =
      let raw = take len memory ++ take n (drop i s) in
      record {
        fits =
            omega (
              arith,
              run_most,
              w.replies.put.place,
              reply_bound (without_cr raw),
              without_short raw,
              length-append (take len memory) (take n (drop i s)),
              length-take n (drop i s),
              length-take len memory,
              v.size,
            );
      }

-- the next LF stands at i + r, or there is none
module _ {memory₀ : List ℕ} {begun : ℕ} {s room₀ : List ℕ} {t : Totals} {memory room : List ℕ} {at : ℕ} {totals : Totals} {len i : ℕ}
    (v : Run memory₀ begun s room₀ t memory room (progress at totals) len i) (r : ℕ) (f : r ≡ before 10 (rest i s)) where
  next : r ≡ before 10 (drop i s)
  next = f ∙ ap (before 10) (rest_is i s)

  here : i + r - i ≡ before 10 (drop i s)
  here = omega (arith, next)

  pub find_fits : Fits w64 (i + r)
  find_fits = record { fits = omega (arith, v.text, next, before_le 10 (drop i s), left v, v.within) }

  module _ (h : i + r < length s) where
    inside : i + r - i < length (drop i s)
    inside = omega (arith, next, left v)

    behind : drop (suc (i + r - i)) (drop i s) ≡ drop (i + r + 1) s
    behind = drop-drop (suc (i + r - i)) i s ∙ ap (λ (k : ℕ). drop k s) (let k : i + suc (i + r - i) ≡ i + r + 1 = omega (arith, next) in k)

    pub run_turn : (memory' room' : List ℕ) (a : ReplySize) (totals' : Totals) → length memory' ≡ length memory
        → Ends memory len (take (i + r - i) (drop i s)) room at a memory' room' → totals' ≡ counted totals a.kind
        → Run memory₀ begun s room₀ t memory' room' (progress (at + a.len) totals') 0 (i + r + 1)
    run_turn memory' room' a totals' m w c =
        let q = take len memory in
        let line = without_cr (q ++ take (i + r - i) (drop i s)) in
        let first : ended_from q (drop i s) ≡ line ∷ ended_from [] (drop (i + r + 1) s) =
        rw (← behind, here) (ended_first q (drop i s) (omega (arith, inside, here))) in
        let second : open_from q (drop i s) ≡ open_from [] (drop (i + r + 1) s) =
        rw (← behind, here) (open_first q (drop i s) (omega (arith, inside, here))) in
        record {
          text = v.text;
          front = v.front;
          size = m ∙ v.size;
          short = omega arith;
          within = omega arith;
          done = v.done ++ (line ∷ []);
          passes = passes_then v.passes (replies_pass totals totals' w.replies c);
          lines = append_snoc v.done line (ended_from [] (drop (i + r + 1) s)) ∙ ap (λ (ls : List (List ℕ)). v.done ++ ls) (sym first) ∙ v.lines;
          last = sym second ∙ v.last;
          stored = ap (memory_after 0 memory') (sym behind) ∙ stored_first len memory (drop i s) (i + r - i) here inside memory' w.stored ∙ v.stored;
        }

  module _ (h : length s ≤ i + r) where
    none : length (drop i s) ≤ before 10 (drop i s)
    none = omega (arith, next, left v, v.within)

    pub run_end : (n : ℕ) (memory' : List ℕ) → Keeps memory len (rest i s) n memory'
        → Runs memory₀ begun s room₀ t (record { len = n; past = progress at totals }) memory' room
    run_end n memory' k =
        let q = take len memory in
        let all : v.done ≡ ended_from (take begun memory₀) s =
        sym (append-nil v.done) ∙ ap (λ (ls : List (List ℕ)). v.done ++ ls) (sym (ended_none q (drop i s) none)) ∙ v.lines in
        record {
          passes = rw all at v.passes;
          short = k.short;
          begun = k.begun ∙ ap (λ (x : List ℕ). take 4098 (q ++ x)) (rest_is i s) ∙ ap (take 4098) (sym (open_none q (drop i s) none) ∙ v.last);
          stored = k.stored ∙ ap (sets memory len) (rest_is i s) ∙ sym (stored_none len memory (drop i s) (before 10 (drop i s)) refl none) ∙ v.stored;
        }

-- `put_totals`
module _ (room part : List ℕ) (at : ℕ) (t : Totals) (from n : ℕ) (q : Put 86 (rest from room) 0 (totals_text t) n part) where
  pub totals_fits : at ≤ 2 ^ 46 → Fits w64 (at + n)
  totals_fits h = record { fits = omega (arith, q.place, q.bound) }

  pub totals_put : from ≡ min at (length room) → length part ≡ length (rest from room)
      → Prints (totals_text t) room at (at + n) (put_mid from (length room - from) room part)
  totals_put f size =
      rw (put_length q (omega arith)) (in_part (totals_text t) room part at from f size (put_front q))

-- `finish`
module _ (last room : List ℕ) (t : Totals) (end : ℕ) (after : List ℕ) where
  pub finish_none : length last ≡ 0 → Prints (totals_text t) room 0 end after → Finishes last room t (progress end t) after
  unfolding printed counted_all last_line
  finish_none h p = go last h
    where
      go : (l : List ℕ) → length l ≡ 0 → Finishes l room t (progress end t) after
      go [] e = record { put = p; totals = refl }
      go (b ∷ l) e = absurd (omega arith)

  module _ (a : ReplySize) (m : List ℕ) (q : Replies last room 0 a m) where
    pub finish_asks : length last ≤ 4098 → a.len ≤ 2 ^ 46
    finish_asks h = omega (arith, q.put.place, reply_bound last)

    pub finish_last : (length last ≡ 0 → ⊥) → (t₁ : Totals) → t₁ ≡ counted t a.kind → Prints (totals_text t₁) m a.len end after
        → Finishes last room t (progress end t₁) after
    unfolding last_line printed
    finish_last h t₁ c w = go last h (replies_pass t t₁ q c)
      where
        go : (l : List ℕ) → (length l ≡ 0 → ⊥) → Passes (l ∷ []) room (progress 0 t) (progress (0 + a.len) t₁) m → Finishes l room t (progress end t₁) after
        go [] e x = absurd (e refl)
        go (b ∷ l) e x = record { put = rw (← x.totals) (prints_then x.put (rw (zero-add a.len) w)); totals = x.totals }

-- `fits`
module _ (begun s : List ℕ) (room : ℕ) where
  pub fits_surely : 6 * (length begun + length s) ≤ room → true ≡ leb (length (printed (ended_from begun s))) room
  fits_surely h = sym (le-leb (length (printed (ended_from begun s))) room (omega (arith, printed_bound begun s)))

  pub fits_measured : length begun ≤ 4098 → (zeros memory : List ℕ) (len : ℕ) → Keeps zeros 0 begun len memory
      → (t : Totals) (r : Ran) (none memory' none' : List ℕ) → Runs memory len s none t r memory' none'
      → leb r.past.at room ≡ leb (length (printed (ended_from begun s))) room
  fits_measured h zeros memory len k t r none memory' none' w =
      let e : take len memory ≡ begun = k.begun ∙ take_all 4098 begun h in
      ap (λ (n : ℕ). leb n room) (w.passes.put.place ∙ zero-add (length (printed (ended_from (take len memory) s))))
      ∙ ap (λ (q : List ℕ). leb (length (printed (ended_from q s))) room) e

-- `start`
pub start_state : record { len = 0; totals = record { lines = 0; ok = 0; no = 0; other = 0; long = 0 }; read = 0; closed = false } ≡ state_of (reader_of [])
unfolding reader_of open_from ended_from totals_of
start_state = refl

-- What a call does, by its outcome.
module _ {o : Outcome} {next : Reader} {kept : List ℕ} {state : State} {memory room : List ℕ} where
  does_refuse : {why : Unfed} → o ≡ refuses why → Does o next kept state memory room (record { filling = Err why; state = state }) memory room
  unfolding filling_of room_of accepts
  does_refuse e = rw e (record { filling = refl; room = refl; memory = refl; state = refl; reader = refl })

  module _ {t : List ℕ} (e : o ≡ prints t) where
    does_nothing : length room < length t → Does o next kept state memory room (record { filling = Err NoRoom; state = state }) memory room
    unfolding filling_of room_of accepts
    does_nothing h =
        let f : leb (length t) (length room) ≡ false = lt-leb (length t) (length room) h in
        rw e (record { filling = simp f; room = simp f; memory = simp f; state = simp f; reader = simp f })

    does_print : {n : ℕ} {state' : State} {room' : List ℕ} → length t ≤ length room → Prints t room 0 n room' → state' ≡ state_of next → view state' kept ≡ next
        → Does o next kept state memory room (record { filling = Ok n; state = state' }) kept room'
    unfolding filling_of room_of accepts
    does_print h p g v =
        let f : leb (length t) (length room) ≡ true = le-leb (length t) (length room) h in
        let n : _ ≡ length t = p.place ∙ zero-add (length t) in
        let b : _ ≡ t ++ drop (length t) room = p.bytes (omega arith) ∙ sets-eq t room 0 (omega arith) ∙ ap (λ (k : ℕ). t ++ drop k room) (zero-add (length t)) in
        rw e (record { filling = simp (f, n); room = simp f b; memory = simp f; state = simp f g; reader = simp f v })

-- the length of the open line, within the memory
module _ (state : State) (memory : List ℕ) (len : ℕ) (e : len ≡ min state.len 4098) (m : length memory ≡ 4098) where
  open_length : len ≡ length (take state.len memory)
  open_length = omega (arith, length-take state.len memory)

  open_same : take len memory ≡ take state.len memory
  open_same =
      by_bool (ltb 4098 state.len)
      (λ c. let k = ltb-true 4098 state.len c in take_all len memory (omega arith) ∙ sym (take_all state.len memory (omega arith)))
      (λ c. let k = ltb-false 4098 state.len c in let i : len ≡ state.len = omega arith in ap (λ (n : ℕ). take n memory) i)

  pub open_taken : len ≡ length (take len memory)
  open_taken = sym (length-take-le len memory (omega arith))

  pub open_short : length (take len memory) ≤ 4098
  open_short = omega (arith, length-take len memory)

memory_length : (n : ℕ) (memory s : List ℕ) → length (memory_after n memory s) ≡ length memory
unfolding memory_after
memory_length n memory s =
    by_bool (ltb (before 10 s) (length s))
    (λ c. simp (c, length-sets) (by_bool (eqb n 0) (λ z. simp z) (λ z. simp (z, length-sets))))
    (λ c. simp (c, length-sets))

-- `feed`
module _ (state : State) (memory s room : List ℕ) where
  pub feed_closed : state.closed ≡ true → Feeds state memory s room (record { filling = Err Closed; state = state }) memory room
  unfolding feed_outcome
  feed_closed c = does_refuse (simp c)

  module _ (c : state.closed ≡ false) where
    pub feed_over : 4294967295 < state.read + length s → Feeds state memory s room (record { filling = Err OverLimit; state = state }) memory room
    unfolding feed_outcome
    feed_over h = does_refuse (simp (c, lt-ltb 4294967295 (state.read + length s) h))

    module _ (h : state.read + length s ≤ 4294967295) (len : ℕ) (e : len ≡ min state.len 4098) (m : length memory ≡ 4098) (z : Bool)
        (f : z ≡ leb (length (printed (ended_from (take len memory) s))) (length room)) where
      feed_prints : feed_outcome (view state memory) s ≡ prints (feed_text (view state memory) s)
      unfolding feed_outcome
      feed_prints = simp (c, le-ltb 4294967295 (state.read + length s) h)

      fits_same : z ≡ leb (length (feed_text (view state memory) s)) (length room)
      fits_same = f ∙ ap (λ (q : List ℕ). leb (length (printed (ended_from q s))) (length room)) (open_same state memory len e m)

      pub feed_short : z ≡ false → Feeds state memory s room (record { filling = Err NoRoom; state = state }) memory room
      feed_short g = does_nothing feed_prints (leb-false (length (feed_text (view state memory) s)) (length room) (sym fits_same ∙ g))

      pub feed_done : z ≡ true → (r : Ran) (memory' room' : List ℕ) → Runs memory len s room state.totals r memory' room'
          → Feeds state memory s room
          (record {
            filling = Ok r.past.at;
            state = record { len = r.len; totals = r.past.totals; read = state.read + length s; closed = false };
          }) memory' room'
      unfolding fed
      feed_done g r memory' room' w =
          let o = open_same state memory len e m in
          let q = take state.len memory in
          let k : memory' ≡ memory_after (length q) memory s = w.stored ∙ ap (λ (n : ℕ). memory_after n memory s) (open_length state memory len e m) in
          let b : take r.len (memory_after (length q) memory s) ≡ take 4098 (open_from q s) =
          ap (take r.len) (sym k) ∙ w.begun ∙ ap (λ (x : List ℕ). take 4098 (open_from x s)) o in
          let n : r.len ≡ length (take 4098 (open_from q s)) =
          sym (length-take-le r.len (memory_after (length q) memory s) (omega (arith, w.short, memory_length (length q) memory s))) ∙ ap length b in
          let t : r.past.totals ≡ counted_all state.totals (ended_from q s) = w.passes.totals ∙ ap (λ (x : List ℕ). counted_all state.totals (ended_from x s)) o in
          rw k
          (does_print feed_prints (leb-true (length (feed_text (view state memory) s)) (length room) (sym fits_same ∙ g))
          (rw o at w.passes.put) (cc (n, t)) (cc (b, t)))

-- `close`
module _ (state : State) (memory room : List ℕ) where
  pub close_closed : state.closed ≡ true → Closes state memory room (record { filling = Err Closed; state = state }) room
  unfolding close_outcome
  close_closed c = does_refuse (simp c)

  module _ (c : state.closed ≡ false) (len : ℕ) (e : len ≡ min state.len 4098) (m : length memory ≡ 4098) (n : ℕ)
      (f : n ≡ length (finish_text (take len memory) state.totals)) where
    close_prints : close_outcome (view state memory) ≡ prints (close_text (view state memory))
    unfolding close_outcome
    close_prints = simp c

    close_length : n ≡ length (close_text (view state memory))
    unfolding close_text
    close_length = rw (open_same state memory len e m) at f

    pub close_short : length room < n → Closes state memory room (record { filling = Err NoRoom; state = state }) room
    close_short h = does_nothing close_prints (omega (arith, close_length))

    pub close_done : n ≤ length room → (r : Progress) (room' : List ℕ) → Finishes (take len memory) room state.totals r room'
        → Closes state memory room (record { filling = Ok r.at; state = record { len = 0; totals = r.totals; read = state.read; closed = true } }) room'
    unfolding close_text closed
    close_done h r room' w =
        let x = rw (open_same state memory len e m) at w in
        does_print close_prints (omega (arith, close_length)) x.put (cc x.totals) (cc x.totals)

pub ruleset laws = (
  reply_put,
  ended_length,
  ended_put,
  keep_length,
  keep_done,
  end_whole,
  end_plain,
  end_length,
  end_grown,
  run_start,
  run_fits,
  find_fits,
  run_turn,
  run_end,
  totals_fits,
  totals_put,
  finish_none,
  finish_asks,
  finish_last,
  fits_surely,
  fits_measured,
  start_state,
  open_taken,
  open_short,
  feed_closed,
  feed_over,
  feed_short,
  feed_done,
  close_closed,
  close_short,
  close_done,
)
