use Rattle.rs01_create.proofs.Writes.{body_stands, failed, left_by_body, left_by_make, left_by_zeros, told, zeros_made, zeros_stand}
use Rattle.rs01_create.proofs.beginning.begin_file.Goals as goal

pub returns-in_err-make-clause-begun : goal.returns-in_err-make-clause-begun
returns-in_err-make-clause-begun g c = λ t.
    failed c.args.sums.now c.args.name.now (g.D.Desk.state c.args.desk.now).files (g.D.Desk.state c.make.new.self).files c.from_residual.result c.from_residual.ensures.0
    (λ header. left_by_make c.args.name.now header _ _ (c.in_err-make.ensures.made t))

pub returns-in_err-write_at-clause-begun : goal.returns-in_err-write_at-clause-begun
returns-in_err-write_at-clause-begun g c = λ t.
    failed c.args.sums.now c.args.name.now (g.D.Desk.state c.args.desk.now).files (g.D.Desk.state c.write_at.new.self).files c.from_residual-in_err-write_at.result c.from_residual-in_err-write_at.ensures.0
    (λ header. left_by_zeros c.args.name.now header _ _ _ _ (c.in_ok-make.ensures.made t) zeros_made (c.in_err-write_at.ensures.written (told _ _ c.in_ok-make.ensures.changes.tells t)))

pub returns-in_err-write_at-2-clause-begun : goal.returns-in_err-write_at-2-clause-begun
returns-in_err-write_at-2-clause-begun g c = λ t.
    let t1 = told _ _ c.in_ok-make.ensures.changes.tells t in
    let t2 = told _ _ c.in_ok-write_at.ensures.changes.tells t1 in
    failed c.args.sums.now c.args.name.now (g.D.Desk.state c.args.desk.now).files (g.D.Desk.state c.write_at-2.new.self).files c.from_residual-in_err-write_at-2.result c.from_residual-in_err-write_at-2.ensures.0
    (λ header.
    left_by_body c.args.name.now header c.args.sums.now _ _ _
    (zeros_stand c.args.name.now _ _ _ _ (c.in_ok-make.ensures.made t) zeros_made (c.in_ok-write_at.ensures.written t1))
    (c.in_err-write_at-2.ensures.written t2))

pub returns-clause-begun : goal.returns-clause-begun
returns-clause-begun g c = λ t.
    let t1 = told _ _ c.in_ok-make.ensures.changes.tells t in
    let t2 = told _ _ c.in_ok-write_at.ensures.changes.tells t1 in
    body_stands c.args.name.now c.args.sums.now _ _ _
    (zeros_stand c.args.name.now _ _ _ _ (c.in_ok-make.ensures.made t) zeros_made (c.in_ok-write_at.ensures.written t1))
    (c.in_ok-write_at-2.ensures.written t2)
