use Rattle.vms_seats.proofs.main_pass.Main.begin.Given as goal

abbrev pub ghosts-begin_as : goal.ghosts-begin_as
ghosts-begin_as g a = record { cpu = a.cpu }
