use mathlib.Core.Logic.{inl, inr}
use Rattle.scalar.proofs.BoxLaws.{first_stays, content_there, all_united}
use Rattle.scalar.proofs.unions.unite_boxes.Goals as goal

pub choose_content-requires : goal.choose_content-requires
choose_content-requires c = (content_there (c.in-Content.ensures _ _ c.requires.0.there), content_there (c.in-Content-inner_at.ensures _ _ c.requires.1.there))

pub returns-in-Content-inner_at : goal.returns-in-Content-inner_at
returns-in-Content-inner_at c = λ k l h g boxed boxed'. all_united (c.in-Content.ensures _ k h) (c.in-Content-inner_at.ensures _ l g) c.choose_content.result c.choose_content.ensures

pub returns-in-Kind-inner_at : goal.returns-in-Kind-inner_at
returns-in-Kind-inner_at c = λ k l h g boxed boxed'. first_stays k l (inr (c.in-Kind-inner_at.ensures _ l g).1) boxed boxed'

pub returns-in-Kind : goal.returns-in-Kind
returns-in-Kind c = λ k l h g boxed boxed'. first_stays k l (inl (c.in-Kind.ensures _ k h).1) boxed boxed'
