-- A walk ends where its outcome says.
use Rattle.std.proofs.Common.{◌≡◌, ℕ, suc, ◌<◌, nat_lt, List, [], ◌∷◌, length, sym, refl, ap, ◌∙◌, subst}
use Rattle.std.proofs.lemmas.Bool.{cond-true, lt-ltb}
use Rattle.plfd.specs.declared.settings.Setting.{Setting}
use Rattle.tableau.specs.declared.commands.Command.{Command}
use Rattle.tableau.specs.Branches.{Branch, start}
use Rattle.tableau.specs.Walk.{Position, ◌at◌, turn, Outcome, found, none, spent, after, advanced, reached, steps}
use Rattle.tableau.specs.Laws.{EndsAt, WalkEndsWhereItSays}
use Rattle.tableau.proofs.Walking.{walking}

module _ (S : List Setting) where
  advanced_is : (b : Branch) (c : ℕ) (ps : List Position) → c < length b.entries → advanced S (b at c ∷ ps) ≡ (turn S b c ps).next
  advanced_is b c ps l = cond-true (nat_lt c (length b.entries)) _ _ (lt-ltb _ _ l)

  abbrev Ends : List Position → Outcome → Type 0
  Ends ps o = EndsAt o (reached S (steps o) ps)

  -- one turn earlier the same end is one turn further
  ends_after : (ps qs : List Position) (ms : List Command) (o : Outcome) → advanced S ps ≡ qs → Ends qs o → Ends ps (after ms o)
  ends_after ps qs ms (found T k) e h = subst (λ rs. EndsAt (found T (suc k)) (reached S k rs)) (sym e) h
  ends_after ps qs ms (none t k) e h = ap (reached S k) e ∙ h
  ends_after ps qs ms (spent k) e h = subst (λ rs. EndsAt (spent (suc k)) (reached S k rs)) (sym e) h

pub walk_ends_where_it_says : WalkEndsWhereItSays
walk_ends_where_it_says S rules n =
    walking S (λ n ps o. Ends S ps o)
    (λ n. refl)
    (λ n b c ps l. (l, refl))
    (λ b c ps l. l)
    (λ n b c ps l o h. ends_after S (b at c ∷ ps) (turn S b c ps).next (turn S b c ps).commands o (advanced_is S b c ps l) h)
    n (start S rules at 0 ∷ [])
