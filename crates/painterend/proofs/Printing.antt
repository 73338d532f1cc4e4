-- A run over a file and a page whose bytes are known: what it read are the file's first bytes, what it wrote the first that it laid, and in the end all is read that
-- the printout hangs on, and all is written.
use mathlib.Core.List.{List, [], ◌++◌, append_assoc, append-nil}
use mathlib.Core.Logic.{◌⊎◌, inl, inr, ⊎_elim, ◌≢◌}
use mathlib.Core.Path.{◌≡◌, refl, sym, ap, ◌∙◌, subst}
use Prim.Native.Nat.{ℕ}
use lib.ListN.{length, take, drop, take-append-drop}
use lib.Seq.{take-take}
use Rattle.std.specs.Prelude.{Option, None, Some, IfSome}
use Rattle.std.specs.Io.KnownBytes.{Appends, Consumes, IsAtEnd}
use Rattle.std.proofs.KnownBytes.{Appends-nil, Appends-trans, Consumes-nil, Consumes-trans}
use Rattle.book.specs.declared.Book.{Book}
use Rattle.book.specs.Walk.{walk_of}
use Rattle.painterend.specs.Program.{Starts, printout}
use Rattle.painterend.specs.Turn as turn
use Rattle.painterend.specs.Turn.{left, awaiting, read_behind, Failed, Ready, Turns, Turn, Reads, Writes}
use Rattle.painterend.specs.Course.{laid_by, begins, interrupted, lays_part, ends, fails, Prints}
use Rattle.painterend.specs.declared.turns.Progress.{Progress}
use Rattle.painterend.specs.declared.turns.State.{State}
use Rattle.painterend.proofs.Apart.{reading_done, reading_failed, done_failed}
use Rattle.painterend.proofs.Courses.{Reached, so_far, all_passed, whole_page, behind_a_small_size}
use Rattle.painterend.proofs.Passed.{nothing_behind}

-- all that the printout hangs on was read
abbrev Whole : List ℕ → Option (List ℕ) → Type 0
Whole file rest = IsAtEnd rest ⊎ ((walk_of file 0).answer ≡ 2)

pub record Printing (s : State) (buffer : List ℕ) (unread rest page paper : Option (List ℕ)) : Type 0 where
  pub reached : Reached s buffer
  pub reads : Consumes unread rest reached.file
  pub written : List ℕ
  pub unwritten : List ℕ
  pub laid : reached.text ≡ written ++ unwritten
  pub writes : Appends page paper written
  pub all : s.progress ≢ Progress.Failed → Appends page paper reached.text
  pub over : s.progress ≡ Progress.Done → Whole reached.file rest

pub printing_start : (b : Book) (s : State) (buffer : List ℕ) (unread page : Option (List ℕ)) → Starts b → s ≡ awaiting b 0 0 → Printing s buffer unread unread page page
printing_start b s buffer unread page x e = subst (λ (z : State). Printing z buffer unread unread page page) (sym e) (record {
  reached = record { file = []; text = []; course = begins x };
  reads = Consumes-nil unread;
  written = [];
  unwritten = [];
  laid = refl;
  writes = Appends-nil page;
  all = λ z. Appends-nil page;
  over = λ z. absurd (reading_done refl z);
})

-- ---- a turn, before its text is written: what was read, and that the text is laid behind what was laid
record Turned (t : State) (after text out : List ℕ) (unread rest : Option (List ℕ)) : Type 0 where
  pub reached : Reached t after
  pub reads : Consumes unread rest reached.file
  pub lays : reached.text ≡ text ++ laid_by t out
  pub over : t.progress ≡ Progress.Done → Whole reached.file rest

module _ (s : State) (before : List ℕ) (t : State) (after out : List ℕ) (unread mid rest : Option (List ℕ)) (x : Reached s before) (g : s.progress ≡ Progress.Reading) (reads : Consumes unread mid x.file) (ready : Ready s)
    (y : Reads s.laid (left s before) t after mid rest) where
  as_before : Consumes mid rest [] → Consumes unread rest x.file
  as_before c = subst (Consumes unread rest) (append-nil x.file) (Consumes-trans unread mid rest x.file [] reads c)

  nothing_laid : t.laid.count ≡ 0 → x.text ≡ x.text ++ laid_by t out
  nothing_laid none = sym (ap (λ (n : ℕ). x.text ++ take n out) none ∙ append-nil x.text)

  turned : Turns s.laid (left s before) t after out → Turned t after x.text out unread rest
  turned (turn.interrupted z) =
      let on : t.progress ≡ Progress.Reading = ap (λ (q : State). q.progress) z.same in record {
        reached = record { file = x.file; text = x.text; course = interrupted x.course g z };
        reads = as_before (subst (Consumes mid rest) (nothing_behind (length (left s before)) t.full after (ap (λ (q : State). q.full) z.same)) (y.takes on));
        lays = nothing_laid (ap (λ (q : State). q.laid.count) z.same);
        over = λ q. absurd (reading_done on q);
      }
  turned (turn.lays_part z) = record {
    reached = record { file = x.file ++ read_behind (left s before) t after; text = x.text ++ laid_by t out; course = lays_part x.course g z };
    reads = Consumes-trans unread mid rest x.file (read_behind (left s before) t after) reads (y.takes z.goes_on);
    lays = refl;
    over = λ q. absurd (reading_done z.goes_on q);
  }
  turned (turn.ends n z) = record {
    reached = record { file = x.file; text = x.text ++ laid_by t out; course = ends x.course g n z };
    reads = as_before (y.stops z.over);
    lays = refl;
    over = λ q. ⊎_elim (λ one. inl (y.ended q one)) (⊎_elim (λ two. inr ((all_passed (so_far x.course g) n).1 ∙ two)) (λ e. absurd (n e))) ready.why;
  }

-- ---- and then it is written: what could be, behind what was written
module _ (t : State) (out text : List ℕ) (r : State) (page ink paper : Option (List ℕ)) (so : Appends page ink text) (w : Writes t r out ink paper) where
  split : laid_by t out ≡ take w.count out ++ drop w.count (laid_by t out)
  split = sym (take-append-drop w.count (laid_by t out)) ∙ ap (λ (l : List ℕ). l ++ drop w.count (laid_by t out)) (take-take w.count t.laid.count out w.within)

  joined : text ++ laid_by t out ≡ (text ++ take w.count out) ++ drop w.count (laid_by t out)
  joined = ap (λ (l : List ℕ). text ++ l) split ∙ sym (append_assoc text (take w.count out) (drop w.count (laid_by t out)))

  some_written : Appends page paper (text ++ take w.count out)
  some_written = Appends-trans page ink paper text (take w.count out) so w.bytes

  all_written : r.progress ≢ Progress.Failed → Appends page paper (text ++ laid_by t out)
  all_written h = subst (Appends page paper) (ap (λ (n : ℕ). text ++ take n out) (w.whole h)) some_written

  written : {after : List ℕ} {unread rest : Option (List ℕ)} → Turned t after text out unread rest → (r ≡ t) ⊎ Failed r → Printing r after unread rest page paper
  written {after} {unread} {rest} z = ⊎_elim
      (λ e. subst (λ (q : State). Printing q after unread rest page paper) (sym e) (record {
        reached = z.reached;
        reads = z.reads;
        written = text ++ take w.count out;
        unwritten = drop w.count (laid_by t out);
        laid = z.lays ∙ joined;
        writes = some_written;
        all = λ h. subst (Appends page paper) (sym z.lays) (all_written (λ f. h (sym (ap (λ (q : State). q.progress) e) ∙ f)));
        over = z.over;
      }))
      (λ f. record {
        reached = record { file = z.reached.file; text = z.reached.text; course = fails z.reached.course f };
        reads = z.reads;
        written = text ++ take w.count out;
        unwritten = drop w.count (laid_by t out);
        laid = z.lays ∙ joined;
        writes = some_written;
        all = λ h. absurd (h f.over);
        over = λ q. absurd (done_failed q f.over);
      })

pub printing_turn : (s : State) (before : List ℕ) (t : State) (after out : List ℕ) (r : State) (unread mid rest page ink paper : Option (List ℕ)) → Printing s before unread mid page ink → s.progress ≡ Progress.Reading → Ready s
    → Turn s.laid (left s before) t after out → Reads s.laid (left s before) t after mid rest → (r ≡ t) ⊎ Failed r → Writes t r out ink paper → Printing r after unread rest page paper
printing_turn s before t after out r unread mid rest page ink paper p g ready y reads state w =
    let z = turned s before t after out unread mid rest p.reached g p.reads ready reads y.turns in
    written t out p.reached.text r page ink paper (p.all (λ f. reading_failed g f)) w z state

-- ---- a turn that failed, which is reported
pub printing_fails : (s : State) (before after : List ℕ) (r : State) (unread mid rest page paper : Option (List ℕ)) → Printing s before unread mid page paper → Consumes mid rest [] → Failed r → Printing r after unread rest page paper
printing_fails s before after r unread mid rest page paper p c f = record {
  reached = record { file = p.reached.file; text = p.reached.text; course = fails p.reached.course f };
  reads = subst (Consumes unread rest) (append-nil p.reached.file) (Consumes-trans unread mid rest p.reached.file [] p.reads c);
  written = p.written;
  unwritten = p.unwritten;
  laid = p.laid;
  writes = p.writes;
  all = λ h. absurd (h f.over);
  over = λ q. absurd (done_failed q f.over);
}

-- ---- the whole run
-- where all of the page is written, it is the printout of all that the file had left
whole_file : (file text : List ℕ) (unread rest page paper : Option (List ℕ)) → text ≡ printout file → Consumes unread rest file → Whole file rest → Appends page paper text
    → IfSome unread (λ xs. Appends page paper (printout xs))
whole_file file text None rest page paper e c w a = tt
whole_file file text (Some xs) None page paper e c w a = absurd c
whole_file file text (Some xs) (Some ys) page paper e c w a = subst (Appends page paper) (e ∙ sym same) a
  where
    same : printout xs ≡ printout file
    same = ap printout c ∙ ⊎_elim (λ z. ap (λ (l : List ℕ). printout (file ++ l)) z ∙ ap printout (append-nil file)) (λ two. behind_a_small_size file ys two) w

pub printing_ends : (s : State) (buffer : List ℕ) (unread rest page paper : Option (List ℕ)) → Printing s buffer unread rest page paper → Prints s unread rest page paper
printing_ends s buffer unread rest page paper p = record {
  ran = record { file = p.reached.file; text = p.reached.text; buffer = buffer; course = p.reached.course; page = whole_page p.reached.course };
  reads = p.reads;
  written = p.written;
  unwritten = p.unwritten;
  laid = p.laid;
  writes = p.writes;
  whole = λ g. whole_file p.reached.file p.reached.text unread rest page paper (whole_page p.reached.course g) p.reads (p.over g) (p.all (λ f. done_failed g f));
}
