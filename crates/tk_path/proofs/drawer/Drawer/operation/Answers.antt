use Rattle.std.proofs.Common.{length, arith}
use Rattle.std.proofs.lemmas.Result.{on_ok_weaker}
use Rattle.tk_path.specs.Undoing.{work_left}
use Rattle.tk_path.specs.Views.{given_to}
use Rattle.tk_path.proofs.WorkLeft.{line_left, corner_left, curve_left, rectangle_left, only_falls}
use Rattle.tk_path.proofs.drawer.Drawer.operation.Goals as goal

pub returns-in-Line-clause-most : goal.returns-in-Line-clause-most
returns-in-Line-clause-most g c =
    let now = c.args.self.now in
    on_ok_weaker c.go.result (λ k. omega (arith, k.0, k.1))
    (only_falls now c.go.new.self c.go.new.path c.go.new.input c.go.result _ (work_left now (length c.args.input.now.rest))
    (λ d e. line_left (given_to now) _ d e) c.go.ensures.gives c.go.ensures.pays)

pub returns-in-AcrossThenUp-clause-most : goal.returns-in-AcrossThenUp-clause-most
returns-in-AcrossThenUp-clause-most g c =
    let now = c.args.self.now in
    on_ok_weaker c.go-in-AcrossThenUp.result (λ k. omega (arith, k.0, k.1))
    (only_falls now c.go-in-AcrossThenUp.new.self c.go-in-AcrossThenUp.new.path c.go-in-AcrossThenUp.new.input c.go-in-AcrossThenUp.result _ (work_left now (length c.args.input.now.rest))
    (λ d e. corner_left (given_to now) _ _ _ d e) c.go-in-AcrossThenUp.ensures.gives c.go-in-AcrossThenUp.ensures.pays)

pub returns-in-UpThenAcross-clause-most : goal.returns-in-UpThenAcross-clause-most
returns-in-UpThenAcross-clause-most g c =
    let now = c.args.self.now in
    on_ok_weaker c.go-in-UpThenAcross.result (λ k. omega (arith, k.0, k.1))
    (only_falls now c.go-in-UpThenAcross.new.self c.go-in-UpThenAcross.new.path c.go-in-UpThenAcross.new.input c.go-in-UpThenAcross.result _ (work_left now (length c.args.input.now.rest))
    (λ d e. corner_left (given_to now) _ _ _ d e) c.go-in-UpThenAcross.ensures.gives c.go-in-UpThenAcross.ensures.pays)

pub returns-in-Dots-clause-most : goal.returns-in-Dots-clause-most
returns-in-Dots-clause-most g c =
    let now = c.args.self.now in
    on_ok_weaker c.curve.result (λ k. omega (arith, k.0, k.1))
    (only_falls now c.curve.new.self c.curve.new.path c.curve.new.input c.curve.result _ (work_left now (length c.args.input.now.rest))
    (λ d e. curve_left (given_to now) _ d e) c.curve.ensures.gives c.curve.ensures.pays)

pub returns-in-Rectangle-clause-most : goal.returns-in-Rectangle-clause-most
returns-in-Rectangle-clause-most g c =
    let now = c.args.self.now in
    on_ok_weaker c.rectangle.result (λ k. omega (arith, k.0, k.1))
    (only_falls now c.rectangle.new.self c.rectangle.new.path c.rectangle.new.input c.rectangle.result _ (work_left now (length c.args.input.now.rest))
    (λ d e. rectangle_left (given_to now) _ _ d e) c.rectangle.ensures.gives c.rectangle.ensures.pays)
