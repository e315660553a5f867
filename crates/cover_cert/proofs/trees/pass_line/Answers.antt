use Rattle.std.proofs.Common.{◌≡◌, ℕ, ◌≤◌, true, List, length, Option, Some, None, sym, ap, ◌∙◌, subst, arith}
use Rattle.define_searches.specs.Classes.{Class, Classes, KeepsLimits}
use Rattle.define_covers.specs.FrontOrder.{continues, turned}
use Rattle.define_covers.specs.Counts.{BeginningFits, Fits}
use Rattle.define_covers.proofs.Counts.{fits_few, fits_within, front_fits, turned_fits}
use Rattle.cover_cert.proofs.trees.pass_line.Goals as goal

beginning_few : (all : Classes) (classes : List Class) (begun items : List ℕ) (place : Option (List ℕ)) → classes ≡ all.classes → begun ≡ items → Some items ≡ place → BeginningFits all place → length begun ≤ length classes
beginning_few all classes begun items place e f g h =
    let fits : Fits all.classes items = subst (BeginningFits all) (sym g) h in
    let few = fits_few all.classes items fits in
    omega (arith, few, ap (λ (cs : List Class). length cs) e, ap (λ (xs : List ℕ). length xs) f)

line_fits : (all : Classes) (classes : List Class) (begun items front line : List ℕ) (place : Option (List ℕ)) → KeepsLimits all → classes ≡ all.classes → begun ≡ items → Some items ≡ place → BeginningFits all place → front ≡ line →
    continues classes begun front ≡ true → Fits all.classes line
line_fits all classes begun items front line place limits e f g h same c =
    subst (Fits all.classes) same (front_fits all classes begun front limits e (subst (Fits all.classes) (sym f) (subst (BeginningFits all) (sym g) h)) c)

next_fits : (all : Classes) (line : List ℕ) → Fits all.classes line → (next : Option (List ℕ)) → turned all.classes line ≡ next → BeginningFits all next
next_fits all line h None e = tt
next_fits all line h (Some next) e = turned_fits all.classes line next h e

pub continues-requires : goal.continues-requires
continues-requires g c =
    beginning_few c.args.terms.now.classes c.classes.result.now c.deref.result.now c.in-Some.beginning.items c.args.place.now c.classes.ensures c.deref.ensures.value (rw c.in-Some.is at c.place.view_is) c.requires.within

pub judge-requires-clause-fits : goal.judge-requires-clause-fits
judge-requires-clause-fits g c =
    fits_few c.args.terms.now.classes.classes c.front-2.result.now
    (line_fits c.args.terms.now.classes c.classes.result.now c.deref.result.now c.in-Some.beginning.items c.front.result.now c.front-2.result.now c.args.place.now c.facts.ensures c.classes.ensures c.deref.ensures.value
    (rw c.in-Some.is at c.place.view_is) c.requires.within (c.front.ensures ∙ sym c.front-2.ensures) (sym c.in_ok-continues.ensures ∙ c.if-not-branch.false))

pub judge-requires-clause-within : goal.judge-requires-clause-within
judge-requires-clause-within g c =
    fits_within c.args.terms.now.classes c.front-2.result.now
    (line_fits c.args.terms.now.classes c.classes.result.now c.deref.result.now c.in-Some.beginning.items c.front.result.now c.front-2.result.now c.args.place.now c.facts.ensures c.classes.ensures c.deref.ensures.value
    (rw c.in-Some.is at c.place.view_is) c.requires.within (c.front.ensures ∙ sym c.front-2.ensures) (sym c.in_ok-continues.ensures ∙ c.if-not-branch.false))

pub turned-requires : goal.turned-requires
turned-requires g c =
    let few = fits_few c.args.terms.now.classes.classes c.front-3.result.now
    (line_fits c.args.terms.now.classes c.classes.result.now c.deref.result.now c.in-Some.beginning.items c.front.result.now c.front-3.result.now c.args.place.now c.facts.ensures c.classes.ensures c.deref.ensures.value
    (rw c.in-Some.is at c.place.view_is) c.requires.within (c.front.ensures ∙ sym c.front-3.ensures) (sym c.in_ok-continues.ensures ∙ c.if-not-branch.false)) in
    omega (arith, few, ap (λ (cs : List Class). length cs) c.classes-2.ensures)

pub returns-clause-within : goal.returns-clause-within
returns-clause-within g c =
    let all = c.args.terms.now.classes in
    let fits = line_fits all c.classes.result.now c.deref.result.now c.in-Some.beginning.items c.front.result.now c.front-3.result.now c.args.place.now c.facts.ensures c.classes.ensures c.deref.ensures.value
    (rw c.in-Some.is at c.place.view_is) c.requires.within (c.front.ensures ∙ sym c.front-3.ensures) (sym c.in_ok-continues.ensures ∙ c.if-not-branch.false) in
    next_fits all c.front-3.result.now fits _ (ap (λ (cs : List Class). turned cs c.front-3.result.now) (sym c.classes-2.ensures) ∙ sym c.in_ok-beginning.ensures)
