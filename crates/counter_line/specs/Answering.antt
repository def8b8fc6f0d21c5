-- What a line's answer does, command by command: the call's promise, and the lines of its answer.
use Rattle.std.specs.Prelude.{Some, None, ◌≡◌, refl, List, ℕ, ◌≤◌, ◌<◌, length, ℤ, pos, Result}
use Rattle.std.proofs.Common.{sym, ◌∙◌, subst, ap, arith}
use Rattle.std.proofs.Math.Option.{Option}
use Rattle.plain.specs.Causes.{Cause, cause_number, unreadable_line, FirstOf}
use Rattle.plain.specs.Book.{State, Call, post, withdraw, query, listing, Answer, refused, step}
use Rattle.counter_columns.specs.declared.Command.{Command}
use Rattle.counter_columns.specs.declared.Command.TheVariants.{Post, Withdraw, Query, List as Listing}
use Rattle.counter_columns.specs.Commands.{LineCommand, Parsed, parsed_unique, command_of, command_parsed}
use Rattle.counter_print.specs.Printed.{Answers}
use Rattle.dynamic.specs.OfferTree.{Held}
use Rattle.table.specs.Fields.{capacity_word}
use Rattle.table.specs.Words.{word}
use Rattle.table.specs.Layout.{cap_most}
use Rattle.table.specs.Items.{Item}
use Rattle.form.specs.Form.{Form}
use Rattle.causes.specs.declared.Declined.{Declined}
use Rattle.promises.specs.declared.Update.{Update}
use Rattle.promises.specs.declared.Found.{Found}
use Rattle.promises.specs.Promises.{part_of, capacity_at, table_trials, OnlyPart, Updates, Queries, Lists, update_answer, found_answer, listing_answer}
use Rattle.form.specs.Live.{book_sound}
use Rattle.history.specs.Claim.{read_state}
use Rattle.counter_line.specs.Promises.{room, letter_of, named, outcome, most, Stands, Declines, Obeys, Counts}
use Rattle.counter_reply.specs.Answered.{answered, Prints}
use Rattle.counter_reply.specs.Replies.{Fits, Replies, refused_line}
use Rattle.counter_line.specs.Fitting.{shown, Roomy, answer_fits, refusal_fits}

-- ---- the lines of an answer are the plain book's

-- where the answer is the plain book's
plainly : {letter : ℕ} {a : Answer} {before after : List ℕ} {n : ℕ} {t : List ℤ} (k : Call) (s : State) (held : Option (Held Item)) →
    Form (part_of t 0) s held → Roomy k
    → a ≡ (step s k).answer → Replies letter (shown k) a before after n
    → Prints (answered letter (shown k) (step s k).answer) before after n
plainly {letter} {a} {before} {after} {n} {t} k s held form roomy e r =
    subst (λ (x : Answer). Prints (answered letter (shown k) x) before after n) e
    (r.prints (subst (Fits (shown k)) (sym e) (answer_fits s.capacity s.offers s.memory
    (omega (arith, form.book.capacity, cap_most (part_of t 0))) (book_sound form.book) form.memory.undoable k roomy)))

-- where it is a refusal, whatever the words are
refusing : {letter : ℕ} {number : ℤ} {a : Answer} {before after : List ℕ} {n : ℕ} (z : Cause) → a ≡ refused (cause_number z) →
    Replies letter number a before after n
    → Prints (answered letter number (refused (cause_number z))) before after n
refusing {letter} {number} {before = before} {after} {n} z e r =
    (subst (λ (x : Answer). Replies letter number x before after n) e r).prints (refusal_fits number z)

-- ---- a listing's lines

pub record ListsLines (t : List ℤ) (before after : List ℕ) (n : ℕ) : Type 0 where
  pub within : n ≤ length before
  pub declined : (z : Cause) → FirstOf (table_trials t 0 (listing room)) z → Prints (answered 76 (pos 0) (refused (cause_number z))) before after n
  pub prints : (s : State) (held : Option (Held Item)) → Form (part_of t 0) s held → Prints (answered 76 (pos 0) (step s (listing room)).answer) before after n

pub lists_lines : {t pieces pieces' : List ℤ} {before after : List ℕ} {n : ℕ} {l : Result ℤ Declined} → length pieces ≡ 192 → Lists 0 t pieces pieces' l
    → Replies 76 (pos 0) (listing_answer l pieces') before after n → ListsLines t before after n
lists_lines {pieces = pieces} {pieces'} {before} {after} {n} e l r =
    record {
      within = r.within;
      declined = λ z f. refusing z (l.declined z f).0 r;
      prints = λ s held form.
          subst (λ (m : ℕ). Prints (answered 76 (pos 0) (step s (listing m)).answer) before after n) e
          (plainly (listing (length pieces)) s held form e (l.answers s held form.book) r);
    }

-- ---- one line

pub untouched : (c start : ℕ) (t : List ℤ) → OnlyPart c start t t
untouched c start t = record { long = refl; front = refl; back = refl }

pub command_is : {line : List ℕ} {r m : Command} → Parsed line (Some r) → r ≡ m → Parsed line (Some m)
command_is {line} p e = subst (λ (m : Command). Parsed line (Some m)) e p

pub counts_short : (line : List ℕ) (t : List ℤ) (out : List ℕ) → length out < most → Counts line t t out out 0
counts_short line t out h =
    record {
      short = λ _. (refl, refl, refl);
      within = omega arith;
      outside = untouched (capacity_at t 0) 0 t;
      same_part = refl;
      obeys =
          λ g. absurd (omega arith);
    }

-- lines of one command
pub counts_alike : {line line' : List ℕ} {t t' : List ℤ} {out out' : List ℕ} {n : ℕ} → command_of line ≡ command_of line' → Counts line t t' out out' n →
    Counts line' t t' out out' n
counts_alike {t = t} {t'} {out} {out'} {n} e c =
    record {
      short = c.short;
      within = c.within;
      outside = c.outside;
      same_part = c.same_part;
      obeys =
          λ h. subst (λ (m : LineCommand). Obeys m t t' out out' n) e (c.obeys h);
    }

-- a post or a withdrawal
updated : {t t' : List ℤ} {out out' : List ℕ} {n letter : ℕ} (k : Call) {u : Result Update Declined} (s : State) (held : Option (Held Item)) →
    Form (part_of t 0) s held → Roomy k → Updates k 0 t t' u
    → Replies letter (shown k) (update_answer u) out out' n
    → Stands (record { state = (step s k).state; bytes = answered letter (shown k) (step s k).answer }) t' out out' n
updated k s held form roomy u r =
    let f = u.follows s held form in
    record { after = f.after; stands = f.stands; prints = plainly k s held form roomy f.answers r }

left : {t t' : List ℤ} {k : Call} {u : Result Update Declined} → Updates k 0 t t' u → (s : State) (held : Option (Held Item)) →
    Form (part_of t 0) s held → (j : ℕ) → (step s k).answer ≡ refused j → t' ≡ t
left u s held form j e = let f = u.follows s held form in f.refusal j (f.answers ∙ e)

module _ {line : List ℕ} {t : List ℤ} {out out' : List ℕ} {n : ℕ} (long : most ≤ length out) where
  by_command : {t' : List ℤ} (m : LineCommand) → Parsed line m → n ≤ length out → OnlyPart (capacity_at t 0) 0 t t' →
      word (part_of t' 0) capacity_word ≡ word (part_of t 0) capacity_word → Obeys m t t' out out' n → Counts line t t' out out' n
  by_command {t'} m p within outside same o =
      record {
        short = λ h. absurd (omega (arith, long));
        within = within;
        outside = outside;
        same_part = same;
        obeys = λ _. subst (λ (m : LineCommand). Obeys m t t' out out' n) (parsed_unique line m (command_of line) p (command_parsed line)) o;
      }

  pub posted : {t' : List ℤ} (number rate base : ℤ) {u : Result Update Declined} → Parsed line (Some (Post number rate base))
      → Updates (post number rate base) 0 t t' u → Replies 80 number (update_answer u) out out' n → Counts line t t' out out' n
  posted number rate base p u r =
      by_command (Some (Post number rate base)) p r.within u.outside u.same_part
      (record {
        asks = λ no. absurd no;
        declined = λ z f. let d = u.declined z f in (d.1, refusing z d.0 r);
        refusal = left u;
        follows = λ s held form. updated (post number rate base) s held form tt u r;
      })

  pub withdrawn : {t' : List ℤ} (number : ℤ) {u : Result Update Declined} → Parsed line (Some (Withdraw number)) → Updates (withdraw number) 0 t t' u
      → Replies 87 number (update_answer u) out out' n → Counts line t t' out out' n
  withdrawn number p u r =
      by_command (Some (Withdraw number)) p r.within u.outside u.same_part
      (record {
        asks = λ no. absurd no;
        declined = λ z f. let d = u.declined z f in (d.1, refusing z d.0 r);
        refusal = left u;
        follows = λ s held form. updated (withdraw number) s held form tt u r;
      })

  -- a line that only asks
  asking : (m : LineCommand) → Parsed line m → n ≤ length out →
      ((z : Cause) → Declines t m z → Prints (answered (letter_of m) (named m) (refused (cause_number z))) out out' n)
      → ((s : State) → (outcome s m).state ≡ s)
      → ((s : State) (held : Option (Held Item)) → Form (part_of t 0) s held → Prints (answered (letter_of m) (named m) (outcome s m).answer) out out' n)
      → Counts line t t out out' n
  asking m p within declined same prints =
      by_command m p within (untouched (capacity_at t 0) 0 t) refl
      (record {
        asks = λ _. refl;
        declined = λ z f. (refl, declined z f);
        refusal = λ s held form k e. refl;
        follows = λ s held form. record {
          after = held;
          stands = subst (λ (o : State). Form (part_of t 0) o held) (sym (same s)) form;
          prints =
              prints s held form;
        };
      })

  pub asked : (load : ℤ) {f : Result Found Declined} → Parsed line (Some (Query load)) → Queries load 0 t f → Replies 81 (pos 0) (found_answer f) out out' n →
      Counts line t t out out' n
  asked load p f r =
      asking (Some (Query load)) p r.within (λ z d. refusing z (f.declined z d) r) (λ s. read_state s (query load) refl)
      (λ s held form. plainly (query load) s held form tt (f.answers s held form.book) r)

  pub listed_all : Parsed line (Some Listing) → ListsLines t out out' n → Counts line t t out out' n
  listed_all p l = asking (Some Listing) p l.within l.declined (λ s. read_state s (listing room) refl) l.prints

pub unread : {line : List ℕ} {t : List ℤ} {out out' : List ℕ} → most ≤ length out → Parsed line None
    → Answers 63 (pos 11) (pos 0) (pos 0) (pos 0) out out' → Counts line t t out out' 39
unread {out = out} {out'} long p a =
    let r : Replies 63 (pos 0) (refused 11) out out' 39 = refused_line (omega arith) (pos 11) a in
    asking long None p r.within (λ z e. refusing z (ap (λ (c : Cause). refused (cause_number c)) (sym e)) r) (λ s. refl)
    (λ s held form. r.prints (refusal_fits (pos 0) unreadable_line))
